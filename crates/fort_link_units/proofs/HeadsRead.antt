-- The heads of a component: what is read is their tokens, behind which no further head stands, and
-- they are read.
use Rattle.std.proofs.Common.{◌≡◌, ℕ, zero, suc, true, false, List, [], ◌∷◌, ◌++◌, append_assoc, refl, sym, ap, ◌∙◌}
use Rattle.std.specs.List.{flat_map}
use Rattle.fort_lex_token.specs.declared.token.Token.{Token}
use Rattle.fort_lex_token.specs.declared.reserved.Reserved.TheVariants as reserved
use Rattle.fort_tree.specs.declared.spot.Spot.{Spot}
use Rattle.fort_tree.specs.declared.declarations.Export.{Export}
use Rattle.fort_tree.specs.Tokens.{word, named}
use Rattle.fort_parse_reading.specs.Parser.{Row, next_of, many_run, Eater}
use Rattle.fort_parse_reading.specs.Words.{is_word, same_word, sees}
use Rattle.fort_parse_reading.proofs.Laws.{Only, only_read, only_failed, only_then, only_if, only_many, Gets, reads, ends, gets_then}
use Rattle.fort_parse_reading.proofs.Taking.{only_word, only_name, gets_word, gets_name, is_word_at}
use Rattle.fort_link_units.specs.declared.unit.Import.{Import}
use Rattle.fort_link_units.specs.declared.heads.Heads.{Heads}
use Rattle.fort_link_units.specs.Said.{import_tokens, export_tokens, heads_tokens}
use Rattle.fort_link_units.specs.Heads.{import_, imports, export_, exports, heads}

-- the tokens of the heads, the word `component` and the name before them
abbrev pub front_tokens : Heads → List Token
front_tokens h = word reserved.Component h.component ∷ named h.name
    ∷ heads_tokens h.imports h.exports

-- ---- what is read

-- a list of items ends where no further one begins
stopped : {A : Type 0} {b : ℕ} (starts : _ → _) (item : Eater A b) (turns : ℕ) (ts : Row)
    → Only (List A) (many_run (λ state. starts) (λ state x. state) (λ state. item) turns true ts)
    (λ xs rest. starts (next_of rest) ≡ false)
stopped starts item zero ts = only_failed _ _ ts
stopped starts item (suc turns) ts =
    only_if (starts (next_of ts)) _ _ _
    (λ e. only_then (item.parser.run ts) (λ x mid. Unit {0}) _ _
    (record { holds = λ x rest f. tt }) (λ x mid h.
    only_then _ _ _ _ (stopped starts item turns mid) (λ xs rest k. only_read _ (x ∷ xs) rest k)))
    (λ e. only_read _ [] ts e)

-- the tokens of a list of items, and then rest
listed : {A : Type 0} {b : ℕ} (starts : _ → _) (item : Eater A b) (said : A → List Token)
    → ((ts : Row) → Only A (item.parser.run ts) (λ x rest. ts ≡ said x ++ rest))
    → (turns : ℕ) (ts : Row)
    → Only (List A) (many_run (λ state. starts) (λ state x. state) (λ state. item) turns true ts)
    (λ xs rest. ts ≡ flat_map said xs ++ rest)
listed starts item said sound turns ts =
    only_many (λ state. starts) (λ state x. state) (λ state. item)
    (λ state x u v. u ≡ said x ++ v) (λ state xs u v. u ≡ flat_map said xs ++ v)
    (λ state u e. sound u) (λ state u. refl)
    (λ state x xs u v w i j. i ∙ ap (λ (r : Row). said x ++ r) j
    ∙ sym (append_assoc (said x) (flat_map said xs) w)) turns true ts

module _ (n : ℕ) where
  sound_import : (ts : Row)
      → Only Import ((import_ n).parser.run ts) (λ i rest. ts ≡ import_tokens i ++ rest)
  unfolding import_
  sound_import ts =
      only_then _ _ _ _ (only_word reserved.Import ts) (λ s mid h.
      only_then _ _ _ _ (only_name mid) (λ name rest k.
      only_read _ (record { import = s; name = name }) rest
      (h ∙ ap (λ (u : Row). word reserved.Import s ∷ u) k)))

  sound_export : (ts : Row)
      → Only Export ((export_ n).parser.run ts) (λ e rest. ts ≡ export_tokens e ++ rest)
  unfolding export_
  sound_export ts =
      only_then _ _ _ _ (only_word reserved.Export ts) (λ s mid h.
      only_then _ _ _ _ (only_name mid) (λ name rest k.
      only_read _ (record { export = s; name = name }) rest
      (h ∙ ap (λ (u : Row). word reserved.Export s ∷ u) k)))

  -- ts is the tokens of the heads and then rest, at which no further export stands
  pub record YieldsHeads (h : Heads) (ts rest : List Token) : Type 0 where
    pub tokens : ts ≡ front_tokens h ++ rest
    pub stopped : sees (is_word reserved.Export) (next_of rest) ≡ false

  sound_imports : (ts : Row)
      → Only (List Import) ((imports n).run ts)
      (λ xs rest. ts ≡ flat_map import_tokens xs ++ rest)
  unfolding imports
  sound_imports ts =
      listed (sees (is_word reserved.Import)) (import_ n) import_tokens sound_import n ts

  sound_exports : (ts : Row)
      → Only (List Export) ((exports n).run ts)
      (λ xs rest. ts ≡ flat_map export_tokens xs ++ rest)
  unfolding exports
  sound_exports ts =
      listed (sees (is_word reserved.Export)) (export_ n) export_tokens sound_export n ts

  exports_stop : (ts : Row)
      → Only (List Export) ((exports n).run ts)
      (λ xs rest. sees (is_word reserved.Export) (next_of rest) ≡ false)
  unfolding exports
  exports_stop ts = stopped (sees (is_word reserved.Export)) (export_ n) n ts

  both_of : (ts : Row)
      → Only (List Export) ((exports n).run ts)
      (λ xs rest. (ts ≡ flat_map export_tokens xs ++ rest)
      × (sees (is_word reserved.Export) (next_of rest) ≡ false))
  both_of ts = record {
    holds = λ xs rest e. ((sound_exports ts).holds xs rest e, (exports_stop ts).holds xs rest e);
  }

  pub sound_heads : (ts : Row)
      → Only Heads ((heads n).run ts) (λ h rest. YieldsHeads h ts rest)
  unfolding heads
  sound_heads ts =
      only_then _ _ _ _ (only_word reserved.Component ts) (λ at mid h.
      only_then _ _ _ _ (only_name mid) (λ name mid1 h1.
      only_then _ _ _ _ (sound_imports mid1) (λ imported mid2 h2.
      only_then _ _ _ _ (both_of mid2) (λ exported rest k.
      only_read _ _ rest
      (record {
        tokens = h ∙ ap (λ
            (u : Row). word reserved.Component at ∷ u) (h1 ∙ ap (λ
            (u : Row). named name ∷ u) (h2 ∙ ap (λ
            (u : Row). flat_map import_tokens imported ++ u) k.0
            ∙ sym (append_assoc (flat_map import_tokens imported)
            (flat_map export_tokens exported) rest)));
        stopped = k.1;
      })))))

  -- ---- they are read

  sees_import : (s : Spot)
      → sees (is_word reserved.Import) (next_of (word reserved.Import s ∷ [])) ≡ true
  unfolding sees
  sees_import s = is_word_at reserved.Import

  sees_export : (s : Spot)
      → sees (is_word reserved.Export) (next_of (word reserved.Export s ∷ [])) ≡ true
  unfolding sees
  sees_export s = is_word_at reserved.Export

  gets_imports : (turns : ℕ) (xs : List Import) (rest : Row)
      → sees (is_word reserved.Import) (next_of rest) ≡ false
      → Gets (List Import)
      (many_run (λ state. sees (is_word reserved.Import)) (λ state x. state) (λ state. import_ n)
      turns true (flat_map import_tokens xs ++ rest)) xs rest
  unfolding import_
  gets_imports zero xs rest e = ends
  gets_imports (suc turns) [] rest e = rw e reads
  gets_imports (suc turns) (x ∷ xs) rest e =
      rw (sees_import x.import)
      (gets_then _ (gets_then _ (gets_word reserved.Import x.import _)
      (gets_then _ (gets_name x.name _) reads))
      (gets_then _ (gets_imports turns xs rest e) reads))

  gets_exports : (turns : ℕ) (xs : List Export) (rest : Row)
      → sees (is_word reserved.Export) (next_of rest) ≡ false
      → Gets (List Export)
      (many_run (λ state. sees (is_word reserved.Export)) (λ state x. state) (λ state. export_ n)
      turns true (flat_map export_tokens xs ++ rest)) xs rest
  unfolding export_
  gets_exports zero xs rest e = ends
  gets_exports (suc turns) [] rest e = rw e reads
  gets_exports (suc turns) (x ∷ xs) rest e =
      rw (sees_export x.export)
      (gets_then _ (gets_then _ (gets_word reserved.Export x.export _)
      (gets_then _ (gets_name x.name _) reads))
      (gets_then _ (gets_exports turns xs rest e) reads))

  no_import : (xs : List Export) (rest : Row)
      → sees (is_word reserved.Import) (next_of rest) ≡ false
      → sees (is_word reserved.Import) (next_of (flat_map export_tokens xs ++ rest)) ≡ false
  unfolding sees is_word same_word
  no_import [] rest e = e
  no_import (x ∷ xs) rest e = refl

  -- heads are read, where none of them stands behind them
  pub complete_heads : (h : Heads) (rest : Row)
      → sees (is_word reserved.Import) (next_of rest) ≡ false
      → sees (is_word reserved.Export) (next_of rest) ≡ false
      → Gets Heads ((heads n).run (front_tokens h ++ rest)) h rest
  unfolding heads imports exports
  complete_heads h rest e f =
      rw (append_assoc (flat_map import_tokens h.imports) (flat_map export_tokens h.exports) rest)
      (gets_then _ (gets_word reserved.Component h.component _)
      (gets_then _ (gets_name h.name _)
      (gets_then _ (gets_imports n h.imports _ (no_import h.exports rest e))
      (gets_then _ (gets_exports n h.exports rest f) reads))))
