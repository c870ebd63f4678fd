-- A component with a prelude keeps the rules on gaps and names.
use Rattle.std.proofs.Common.{◌≡◌, Bool, true, false, ◌&&◌, List, [], ◌∷◌, ◌++◌, Option, Some, None, cond, map, length, refl, sym, ap, ap₂, subst, ◌∙◌, append_assoc}
use Rattle.std.specs.Prelude.{nat_lt}
use Rattle.std.proofs.lemmas.List.{map-append, append-nil}
use Rattle.fort_tree.specs.declared.spot.Spot.{Spot}
use Rattle.fort_tree.specs.declared.declarations.Component.{Component}
use Rattle.fort_tree.specs.declared.declarations.Declared.{Declared}
use Rattle.fort_tree.specs.Tokens.{Spellings}
use Rattle.fort_tree.specs.Said.{SaidEntry, entries_obey, begins_apart, last_semicolon, elsewhere}
use Rattle.fort_tree.specs.Declarations.{said_declared}
use Rattle.fort_tree.specs.Component.{Obeys, export_obeys, yield}
use Rattle.fort_syntax.specs.Answer.{NamesAreIn, TreeGoesOver}
use Rattle.fort_spawn_prelude.specs.Table.{Part, Entry, Word, Name, Number, Operator, Symbol, table}
use Rattle.fort_spawn_prelude.specs.Numbers.{Spelling, number_of, with_spelling, with_part, extended_by}
use Rattle.fort_spawn_prelude.specs.Prelude.{IsPrelude}
use Rattle.fort_spawn_prelude.proofs.One.{ends}
use Rattle.fort_spawn.specs.Starts.{starts}
use Rattle.fort_spawn.specs.Rewritten.{IsRewritten, AsItIs, WithPrelude, renamed, names_with, with_prelude}
use Rattle.fort_spawn.specs.Laws.{RewrittenObeys}
use Rattle.fort_spawn.proofs.Renamed.{renamed_obey}

-- ---- names that go on

abbrev GoesOn : Spellings → Spellings → Type 0
GoesOn names wide = (more : Spellings) × (wide ≡ names ++ more)

on_further : (names mid wide : Spellings) → GoesOn names mid → GoesOn mid wide → GoesOn names wide
on_further names mid wide h k =
    (h.0 ++ k.0, k.1 ∙ (ap (λ z. z ++ k.0) h.1 ∙ append_assoc names h.0 k.0))

on_if : (b : Bool) (names : Spellings) (s : Spelling) → GoesOn names (cond b names (names ++ s ∷ []))
on_if true names s = ([], sym (append-nil names))
on_if false names s = (s ∷ [], refl)

on_part : (names : Spellings) (p : Part) → GoesOn names (with_part names p)
on_part names (Word w) = ([], sym (append-nil names))
on_part names (Name s) = on_if (nat_lt (number_of names s) (length names)) names s
on_part names (Number n) = ([], sym (append-nil names))
on_part names (Operator o) = ([], sym (append-nil names))
on_part names (Symbol m) = ([], sym (append-nil names))

pub goes_on : (names : Spellings) (es : List Entry) → GoesOn names (extended_by names es)
goes_on names [] = ([], sym (append-nil names))
goes_on names (e ∷ es) =
    on_further names (with_part names e.part) (extended_by (with_part names e.part) es)
    (on_part names e.part) (goes_on (with_part names e.part) es)

-- ---- lists one behind another

both : (a b : Bool) → (a && b) ≡ true → (a ≡ true) × (b ≡ true)
both true b e = (refl, e)
both false b e = absurd cc

same_apart : (s : Option Spot) (e : SaidEntry) (xs ys : List SaidEntry)
    → begins_apart s (e ∷ xs) ≡ begins_apart s (e ∷ ys)
same_apart None e xs ys = refl
same_apart (Some s) e xs ys = refl

after_one : (o : Option Spot) (s : Spot) (ys : List SaidEntry) → o ≡ Some s
    → begins_apart o ys ≡ true
after_one None s ys e = absurd cc
after_one (Some t) s [] e = refl
after_one (Some t) s (y ∷ ys) e = refl

-- where the last of the first list has a `;`
joined : (names : Spellings) (xs ys : List SaidEntry) (s : Spot) → last_semicolon xs ≡ Some s
    → entries_obey names xs ≡ true → entries_obey names ys ≡ true
    → entries_obey names (xs ++ ys) ≡ true
joined names [] ys s l h k = absurd cc
joined names (e ∷ []) ys s l h k =
    let a = both (e.item.obeys names elsewhere) (begins_apart e.semicolon [] && true) h in
    ap₂ (λ x y. x && y) a.0 (ap₂ (λ x y. x && y) (after_one e.semicolon s ys l) k)
joined names (e ∷ f ∷ xs) ys s l h k =
    let a = both (e.item.obeys names elsewhere)
    (begins_apart e.semicolon (f ∷ xs) && entries_obey names (f ∷ xs)) h in
    let b = both (begins_apart e.semicolon (f ∷ xs)) (entries_obey names (f ∷ xs)) a.1 in
    ap₂ (λ x y. x && y) a.0
    (ap₂ (λ x y. x && y) (same_apart e.semicolon f (xs ++ ys) xs ∙ b.0)
    (joined names (f ∷ xs) ys s l b.1 k))

-- ---- the component

-- a component over names that go on
abbrev over : Component → Spellings → Component
over c more = record {
  component = c.component;
  name = c.name;
  export = c.export;
  declarations = c.declarations;
  end = c.end;
  names = c.names ++ more;
  texts = c.texts;
}

-- A component that keeps the rules over its names keeps them over names that go on.
abbrev pub KeepsOn : Type 0
KeepsOn = (c : Component) (more : Spellings) → NamesAreIn c.names (yield c) → Obeys c
    → Obeys (over c more)

pub keeps_on : TreeGoesOver → KeepsOn
keeps_on goes c more named obeys =
    (goes (record { list = yield c; names = c.names; texts = c.texts }) more c.texts c named
    (record { yields = refl; names = refl; texts = refl; obeys = obeys })).obeys

module _ (keeps : KeepsOn) where
  with_obeys : (c : Component) (prelude : List Declared)
      → IsPrelude (names_with c) (starts c) prelude → NamesAreIn c.names (yield c)
      → Obeys c → Obeys (with_prelude c prelude)
  with_obeys c prelude h numbers obeys =
      let wide = names_with c in let on = goes_on c.names (table (starts c)) in
      let own = both (export_obeys (c.names ++ on.0) c.export)
      (entries_obey (c.names ++ on.0) (map said_declared c.declarations))
      (keeps c on.0 numbers obeys) in
      let exported : export_obeys wide c.export ≡ true =
      ap (λ z. export_obeys z c.export) on.1 ∙ own.0 in
      let kept : entries_obey wide (map said_declared (renamed c)) ≡ true =
      renamed_obey c wide
      ∙ (ap (λ z. entries_obey z (map said_declared c.declarations)) on.1 ∙ own.1) in
      let last = ends wide (starts c) prelude h in
      ap₂ (λ x y. x && y) exported
      (ap (entries_obey wide) (map-append said_declared prelude (renamed c))
      ∙ joined wide (map said_declared prelude) (map said_declared (renamed c)) last.0 last.1
      h.obeys kept)

  pub obeying : RewrittenObeys
  obeying c d (AsItIs plain is) numbers h = subst Obeys (sym is) h
  obeying c d (WithPrelude has prelude p is) numbers h =
      subst Obeys (sym is) (with_obeys c prelude p numbers h)
