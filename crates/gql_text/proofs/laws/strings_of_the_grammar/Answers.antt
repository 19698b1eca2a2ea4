use Rattle.gql_text.proofs.StringRules.{token_string, string_token, string_text}
use Rattle.gql_text.proofs.BlockRules.{token_block, block_token, block_text}
use Rattle.gql_text.proofs.laws.strings_of_the_grammar.Goals as goal

pub returns-clause-strings : goal.returns-clause-strings
returns-clause-strings c text value = (λ h. token_string text value h.0 h.1, λ h. (string_token text value h, string_text text value h))

pub returns-clause-block_strings : goal.returns-clause-block_strings
returns-clause-block_strings c text value = (λ h. token_block text value h.0 h.1, λ h. (block_token text value h, block_text text value h))
