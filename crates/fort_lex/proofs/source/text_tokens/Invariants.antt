use Rattle.std.proofs.Common.{◌≤◌, ◌<◌, ◌+◌, ◌-◌, length}
use Rattle.fort_lex.proofs.ReadLaws.{IsRead}
use Rattle.fort_lex.proofs.source.text_tokens.Given as goal

abbrev pub invariant-loop-builder : goal.invariant-loop-builder
invariant-loop-builder l = record {
  read : IsRead l.text l.from l.at l.builder;
  order : l.from ≤ l.at;
  within : l.at ≤ length l.text;
  small : l.builder.place.line + l.builder.place.column ≤ 2 + l.from;
  begun : 0 < l.builder.place.column;
  few : length l.builder.list ≤ 262144;
}

abbrev pub decreases-loop-builder : goal.decreases-loop-builder
decreases-loop-builder l = length l.text - l.at
