use Rattle.gql_registry.proofs.registry.Registry.commit_edit.Goals as goal

pub commit_files-requires : goal.commit_files-requires
commit_files-requires c = c.requires.files

pub returns-clause-current : goal.returns-clause-current
returns-clause-current c = c.commit_files.ensures.current

pub returns-clause-pairs : goal.returns-clause-pairs
returns-clause-pairs c = c.commit_files.ensures.pairs

pub returns-clause-walked : goal.returns-clause-walked
returns-clause-walked c = c.commit_files.ensures.walked

pub returns-clause-idle : goal.returns-clause-idle
returns-clause-idle c = c.commit_files.ensures.idle
