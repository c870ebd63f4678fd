use Rattle.fort_lex.proofs.Uniqueness.{one_list_of_tokens}
use Rattle.fort_link_law_whole.proofs.Single.{itself}
use Rattle.fort_link_law_whole.proofs.laws.one_file_is_itself.Goals as goal

pub returns : goal.returns
returns c = itself c.first_is_as_it_is.ensures one_list_of_tokens
