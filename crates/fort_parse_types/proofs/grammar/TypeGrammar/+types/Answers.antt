use Rattle.std.proofs.Common.{◌≡◌, ℕ, suc, ◌-◌, ◌<◌, true, ap, arith}
use Rattle.fort_lex_token.specs.declared.marks.Mark.TheVariants as mark
use Rattle.fort_parse_reading.specs.Parser.{next_of}
use Rattle.fort_parse_reading.specs.Words.{is_mark, sees}
use Rattle.fort_parse_reading.proofs.Loops.{no_front, goes_on}
use Rattle.fort_parse_types.specs.Types.{type_tree, next_type, next_types}
use Rattle.fort_parse_types.proofs.grammar.TypeGrammar.+types.Goals as goal

deeper : {X : Type 0} (f : ℕ → X) (n : ℕ) → 0 < n → f n ≡ f (suc (n - 1))
deeper f n some = let e : n ≡ suc (n - 1) = omega arith in ap f e

pub type_tree-returns-then-self-eq0 : goal.type_tree-returns-then-self-eq0
unfolding type_tree
type_tree-returns-then-self-eq0 t c _ =
    let none : c.args.self.now.depth ≡ 0 = omega arith
    in ap (λ n. (type_tree c.args.self.now.names.now n).parser.run c.args.tokens.now) none

pub type_tree-returns : goal.type_tree-returns
unfolding type_tree
type_tree-returns t c =
    rw (deeper (λ n. (type_tree c.args.self.now.names.now n).parser.run c.args.tokens.now)
    c.args.self.now.depth (omega arith)) c.type_level.ensures

pub next_types-loop-turn-init : goal.next_types-loop-turn-init
unfolding next_types
next_types-loop-turn-init t c =
    let k : c.args.self.now.depth - 0 ≡ c.args.self.now.depth = omega arith
    in rw (c.new-found.ensures, k) (no_front _)

pub next_types-loop-turn-preserved : goal.next_types-loop-turn-preserved
next_types-loop-turn-preserved t c =
    let l = c.loop-turn in
    let e : sees (is_mark mark.Comma) (next_of l.tokens) ≡ true = grind arith in
    rw c.in_ok-add.ensures.ok
    (goes_on (λ state. sees (is_mark mark.Comma)) (λ state x. state)
    (λ state. next_type c.args.self.now.names.now
    (type_tree c.args.self.now.names.now c.args.self.now.depth)) l.found
    c.args.self.now.depth l._turn true l.tokens _ c.in_ok-next_type.field-0
    c.next_type.new.tokens (omega arith) e c.in_ok-next_type.ensures l.invariant)
