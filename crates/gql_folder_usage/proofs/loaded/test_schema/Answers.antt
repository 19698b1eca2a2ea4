use Rattle.gql_folder_usage.proofs.loaded.test_schema.Goals as goal

pub returns-then-is_sound : goal.returns-then-is_sound
returns-then-is_sound c = c.is_sound.ensures.0 c.if-is_sound.true
