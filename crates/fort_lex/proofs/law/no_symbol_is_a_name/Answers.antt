use Rattle.fort_lex.proofs.SymbolLaws.{symbol_stands}
use Rattle.fort_lex.proofs.law.no_symbol_is_a_name.Goals as goal

pub returns : goal.returns
returns c = symbol_stands
