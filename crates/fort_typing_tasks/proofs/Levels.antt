-- One level of each form, by name.
use Rattle.fort_typing_meaning.proofs.Levels.{level-Number, level-Text, level-Truth, level-Receiver, level-Name, level-Parens, level-Tuple, level-Operator, level-Chain, level-Beside, level-Run, level-Subscript, level-Power, level-Field, level-Method, level-Fill, level-Block, level-Do, level-If, level-While, level-For, level-Case, level-Typecase, level-Try, level-Atomic, level-Tryatomic, level-Throw, level-Fn, level-Reduce, level-Assign, piece-Local, piece-Locals, piece-Expression, arm-is, giving-is, clause-is}

pub ruleset levels = (
  level-Number,
  level-Text,
  level-Truth,
  level-Receiver,
  level-Name,
  level-Parens,
  level-Tuple,
  level-Operator,
  level-Chain,
  level-Beside,
  level-Run,
  level-Subscript,
  level-Power,
  level-Field,
  level-Method,
  level-Fill,
  level-Block,
  level-Do,
  level-If,
  level-While,
  level-For,
  level-Case,
  level-Typecase,
  level-Try,
  level-Atomic,
  level-Tryatomic,
  level-Throw,
  level-Fn,
  level-Reduce,
  level-Assign,
)

pub ruleset pieces = (piece-Local, piece-Locals, piece-Expression)

pub ruleset clauses = (arm-is, giving-is, clause-is)
