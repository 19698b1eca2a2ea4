mod OneFile
