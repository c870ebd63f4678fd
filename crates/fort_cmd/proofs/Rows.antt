-- The rows of matches: one more at their end.
use Rattle.std.proofs.Common.{◌≡◌, ◌<◌, ◌||◌, ℕ, zero, suc, Bool, true, false, cond, refl, ap, sym, ◌∙◌, arith, List, [], ◌∷◌, ◌++◌, length, true≢false}
use Rattle.std.specs.Prelude.{codes, option_map, slice_get, Option, Some, None, is_some, unwrap_or}
use Rattle.std.specs.Str.{bytes_eq}
use Rattle.std.proofs.lemmas.Slice.Eq.{bytes_eq-Decides}
use Rattle.clap.specs.Walk.{Row, Text, at_row, has_row, more_values, stronger, with_values, without}
use Rattle.clap.specs.declared.parser.matches.ValueSource.TheVariants.{CommandLine}
use Rattle.clap.specs.declared.builder.value_parser.Reading.TheVariants.{AsWritten}
use Rattle.fort_cmd.specs.Words.{Choice, Workers, Fuel, Given, IsNumber, most_of}
use Rattle.fort_cmd.specs.Line.{Found, FoundNumber, Kind, OfFile, OfRun, OfAudit, OfLink, first_row, id_of, row, row_of_all, row_of_id, second_row}
use Rattle.fort_cmd.proofs.Files.{HasRoom, IsSingle, id_at}

pub some_none : {X : Type 0} (x : X) → Some x ≡ None → ⊥
some_none x e = true≢false (ap is_some e)

pub some_injective : {X : Type 0} (x y : X) → Some x ≡ Some y → x ≡ y
some_injective x y e = ap (λ o. unwrap_or o x) e

pub append_nil : {X : Type 0} (xs : List X) → xs ++ [] ≡ xs
append_nil [] = refl
append_nil (x ∷ xs) = ap (λ ys. x ∷ ys) (append_nil xs)

-- ---- a row of an id

module _ (id : Text) where
  pub none_has : (rows : List Row) → row_of_id id rows ≡ None → has_row id rows ≡ false
  none_has [] e = refl
  none_has (r ∷ rs) e = go (bytes_eq r.id id) (none_has rs) e
    where
      go : (b : Bool) → (row_of_id id rs ≡ None → has_row id rs ≡ false)
          → cond b (Some r) (row_of_id id rs) ≡ None → (b || has_row id rs) ≡ false
      go true k e = absurd (some_none r e)
      go false k e = k e

  pub has_none : (rows : List Row) → has_row id rows ≡ false → row_of_id id rows ≡ None
  has_none [] e = refl
  has_none (r ∷ rs) e = go (bytes_eq r.id id) (has_none rs) e
    where
      go : (b : Bool) → (has_row id rs ≡ false → row_of_id id rs ≡ None)
          → (b || has_row id rs) ≡ false → cond b (Some r) (row_of_id id rs) ≡ None
      go true k e = absurd (true≢false e)
      go false k e = k e

  at_none : (change : Row → List Row) (missing rows : List Row) → row_of_id id rows ≡ None
      → at_row id change missing rows ≡ rows ++ missing
  at_none change missing [] e = refl
  at_none change missing (r ∷ rs) e = go (bytes_eq r.id id) (at_none change missing rs) e
    where
      go : (b : Bool) → (row_of_id id rs ≡ None → at_row id change missing rs ≡ rs ++ missing)
          → cond b (Some r) (row_of_id id rs) ≡ None
          → cond b (change r ++ rs) (r ∷ at_row id change missing rs) ≡ r ∷ rs ++ missing
      go true k e = absurd (some_none r e)
      go false k e = ap (λ xs. r ∷ xs) (k e)

  pub found_end : (rows : List Row) (r : Row) → row_of_id id rows ≡ None → bytes_eq r.id id ≡ true
      → row_of_id id (rows ++ r ∷ []) ≡ Some r
  found_end [] r e is = rw is refl
  found_end (x ∷ xs) r e is = go (bytes_eq x.id id) (λ k. found_end xs r k is) e
    where
      go : (b : Bool) → (row_of_id id xs ≡ None → row_of_id id (xs ++ r ∷ []) ≡ Some r)
          → cond b (Some x) (row_of_id id xs) ≡ None
          → cond b (Some x) (row_of_id id (xs ++ r ∷ [])) ≡ Some r
      go true k e = absurd (some_none x e)
      go false k e = k e

  pub found_before : (rows : List Row) (r : Row) → bytes_eq r.id id ≡ false
      → row_of_id id (rows ++ r ∷ []) ≡ row_of_id id rows
  found_before [] r not = rw not refl
  found_before (x ∷ xs) r not = ap (cond (bytes_eq x.id id) (Some x)) (found_before xs r not)

  -- A use of an argument that was not used before adds a row.
  pub row_added : (value : Text) (rows : List Row) → row_of_id id rows ≡ None
      → with_values id AsWritten CommandLine (value ∷ []) (without id rows)
      ≡ rows ++ row id value ∷ []
  row_added value rows e =
      let kept : without id rows ≡ rows = at_none (λ _. []) [] rows e ∙ append_nil rows in
      ap (with_values id AsWritten CommandLine (value ∷ [])) kept
      ∙ at_none (more_values CommandLine (value ∷ [])) (row id value ∷ []) rows e

-- ---- what words give, and one thing more

abbrev pub all : List Text → Option ℕ → Option ℕ → Given
all files workers fuel = record { files = files; workers = workers; fuel = fuel }

number_kept : (choice : Choice) (rows more : List Row) (n : Option ℕ)
    → row_of_id (id_of choice) more ≡ row_of_id (id_of choice) rows → FoundNumber choice rows n
    → FoundNumber choice more n
number_kept choice rows more None e f = e ∙ f
number_kept choice rows more (Some n) e f = (f.0, e ∙ f.1, f.2)

pub workers_found : (kind : Kind) (files : List Text) (fuel : Option ℕ) (rows : List Row)
    (value : Text) (n : ℕ) → Found kind rows (all files None fuel)
    → IsNumber (most_of Workers) value n
    → Found kind (rows ++ row (id_of Workers) value ∷ []) (all files (Some n) fuel)
workers_found kind files fuel rows value n f is = record {
  workers =
      (value, found_end (codes "workers") rows (row (codes "workers") value) f.workers refl, is);
  fuel = number_kept Fuel rows (rows ++ row (codes "workers") value ∷ []) fuel
      (found_before (codes "fuel") rows (row (codes "workers") value) refl) f.fuel;
  file = found_before (codes "file") rows (row (codes "workers") value) refl ∙ f.file;
  kept = found_before (codes "record") rows (row (codes "workers") value) refl ∙ f.kept;
}

pub fuel_found : (kind : Kind) (files : List Text) (workers : Option ℕ) (rows : List Row)
    (value : Text) (n : ℕ) → Found kind rows (all files workers None)
    → IsNumber (most_of Fuel) value n
    → Found kind (rows ++ row (id_of Fuel) value ∷ []) (all files workers (Some n))
fuel_found kind files workers rows value n f is = record {
  workers =
      number_kept Workers rows (rows ++ row (codes "fuel") value ∷ []) workers
      (found_before (codes "workers") rows (row (codes "fuel") value) refl) f.workers;
  fuel = (value, found_end (codes "fuel") rows (row (codes "fuel") value) f.fuel refl, is);
  file = found_before (codes "file") rows (row (codes "fuel") value) refl ∙ f.file;
  kept = found_before (codes "record") rows (row (codes "fuel") value) refl ∙ f.kept;
}

pub none_found : (kind : Kind) → Found kind [] (all [] None None)
none_found OfFile = record { workers = refl; fuel = refl; file = refl; kept = refl }
none_found OfRun = record { workers = refl; fuel = refl; file = refl; kept = refl }
none_found OfAudit = record { workers = refl; fuel = refl; file = refl; kept = refl }
none_found OfLink = record { workers = refl; fuel = refl; file = refl; kept = refl }

-- ---- one file more

-- Each file was found in a row of its own.
record Each (rows : List Row) (files : List Text) : Type 0 where
  file : row_of_id (codes "file") rows ≡ option_map (row (codes "file")) (slice_get files 0)
  kept : row_of_id (codes "record") rows ≡ option_map (row (codes "record")) (slice_get files 1)

each_of : (kind : Kind) → IsSingle kind → (rows : List Row) (g : Given) → Found kind rows g
    → Each rows g.files
each_of OfFile s rows g f = record { file = f.file; kept = f.kept }
each_of OfRun s rows g f = record { file = f.file; kept = f.kept }
each_of OfAudit s rows g f = record { file = f.file; kept = f.kept }
each_of OfLink s rows g f = absurd s

found_of_each : (kind : Kind) → IsSingle kind → (rows : List Row) (g : Given) → Each rows g.files
    → FoundNumber Workers rows g.workers → FoundNumber Fuel rows g.fuel → Found kind rows g
found_of_each OfFile s rows g e w f =
    record { workers = w; fuel = f; file = e.file; kept = e.kept }
found_of_each OfRun s rows g e w f =
    record { workers = w; fuel = f; file = e.file; kept = e.kept }
found_of_each OfAudit s rows g e w f =
    record { workers = w; fuel = f; file = e.file; kept = e.kept }
found_of_each OfLink s rows g e w f = absurd s

room_means : (kind : Kind) (n : ℕ) → IsSingle kind → HasRoom kind n → n < 2
room_means OfFile n s l = omega (arith, l)
room_means OfRun n s l = omega (arith, l)
room_means OfAudit n s l = l
room_means OfLink n s l = absurd s

none_each : (files : List Text) (rows : List Row) → length files < 2 → Each rows files
    → row_of_id (id_at (length files)) rows ≡ None
none_each [] rows l f = f.file
none_each (x ∷ []) rows l f = f.kept
none_each (x ∷ y ∷ files) rows l f = absurd (omega (arith, l))

more_each : (files : List Text) (rows : List Row) (value : Text) → length files < 2
    → Each rows files
    → Each (rows ++ row (id_at (length files)) value ∷ []) (files ++ value ∷ [])
more_each [] rows value l f = record {
  file = found_end (codes "file") rows (row (codes "file") value) f.file refl;
  kept = found_before (codes "record") rows (row (codes "file") value) refl ∙ f.kept;
}
more_each (x ∷ []) rows value l f = record {
  file = found_before (codes "file") rows (row (codes "record") value) refl ∙ f.file;
  kept = found_end (codes "record") rows (row (codes "record") value) f.kept refl;
}
more_each (x ∷ y ∷ files) rows value l f = absurd (omega (arith, l))

number_before : (choice : Choice) (n : ℕ) (rows : List Row) (value : Text) (o : Option ℕ)
    → FoundNumber choice rows o → FoundNumber choice (rows ++ row (id_at n) value ∷ []) o
number_before Workers zero rows value o f =
    number_kept Workers rows (rows ++ row (codes "file") value ∷ []) o
    (found_before (codes "workers") rows (row (codes "file") value) refl) f
number_before Workers (suc n) rows value o f =
    number_kept Workers rows (rows ++ row (codes "record") value ∷ []) o
    (found_before (codes "workers") rows (row (codes "record") value) refl) f
number_before Fuel zero rows value o f =
    number_kept Fuel rows (rows ++ row (codes "file") value ∷ []) o
    (found_before (codes "fuel") rows (row (codes "file") value) refl) f
number_before Fuel (suc n) rows value o f =
    number_kept Fuel rows (rows ++ row (codes "record") value ∷ []) o
    (found_before (codes "fuel") rows (row (codes "record") value) refl) f

module _ (kind : Kind) (single : IsSingle kind) (files : List Text) (workers fuel : Option ℕ)
    (rows : List Row) (room : HasRoom kind (length files))
    (f : Found kind rows (all files workers fuel)) where
  pub none_at : row_of_id (id_at (length files)) rows ≡ None
  none_at =
      none_each files rows (room_means kind (length files) single room)
      (each_of kind single rows (all files workers fuel) f)

  pub file_found : (value : Text)
      → Found kind (rows ++ row (id_at (length files)) value ∷ [])
      (all (files ++ value ∷ []) workers fuel)
  file_found value =
      found_of_each kind single (rows ++ row (id_at (length files)) value ∷ [])
      (all (files ++ value ∷ []) workers fuel)
      (more_each files rows value (room_means kind (length files) single room)
      (each_of kind single rows (all files workers fuel) f))
      (number_before Workers (length files) rows value workers f.workers)
      (number_before Fuel (length files) rows value fuel f.fuel)

-- ---- one value more in a row

-- the rows behind a use of an argument that may be used again
abbrev pub grown : Text → Text → List Row → List Row
grown id value rows = with_values id AsWritten CommandLine (value ∷ []) rows

module _ (id value : Text) where
  grown_row : (rows : List Row) (values : List Text)
      → row_of_id id rows ≡ Some (row_of_all id values)
      → row_of_id id (grown id value rows) ≡ Some (row_of_all id (values ++ value ∷ []))
  grown_row [] values e = absurd (some_none (row_of_all id values) (sym e))
  grown_row (r ∷ rs) values e = go (bytes_eq r.id id) refl (grown_row rs values) e
    where
      go : (b : Bool) → bytes_eq r.id id ≡ b
          → (row_of_id id rs ≡ Some (row_of_all id values)
          → row_of_id id (grown id value rs) ≡ Some (row_of_all id (values ++ value ∷ [])))
          → cond b (Some r) (row_of_id id rs) ≡ Some (row_of_all id values)
          → row_of_id id (grown id value (r ∷ rs)) ≡ Some (row_of_all id (values ++ value ∷ []))
      go true q k p =
          let same : r ≡ row_of_all id values = some_injective r (row_of_all id values) p in
          rw (q, q) (ap (λ (x : Row). Some (record x {
            values = x.values ++ value ∷ [];
            source = Some (stronger x.source CommandLine);
          })) same)
      go false q k p = rw (q, q) (k p)

  grown_other : (other : Text) → bytes_eq id other ≡ false → (rows : List Row)
      → row_of_id other (grown id value rows) ≡ row_of_id other rows
  grown_other other not [] = rw not refl
  grown_other other not (r ∷ rs) = go (bytes_eq r.id id) refl (grown_other other not rs)
    where
      go : (b : Bool) → bytes_eq r.id id ≡ b
          → row_of_id other (grown id value rs) ≡ row_of_id other rs
          → row_of_id other (grown id value (r ∷ rs)) ≡ row_of_id other (r ∷ rs)
      go true q k =
          let same : r.id ≡ id = (bytes_eq-Decides r.id id).0 q in
          let apart : bytes_eq r.id other ≡ false = ap (λ w. bytes_eq w other) same ∙ not in
          rw (q, apart) refl
      go false q k = rw q (ap (cond (bytes_eq r.id other) (Some r)) k)

  grown_first : (rows : List Row) → row_of_id id rows ≡ None → bytes_eq id id ≡ true
      → row_of_id id (grown id value rows) ≡ Some (row id value)
  grown_first rows e same =
      ap (row_of_id id) (at_none id (more_values CommandLine (value ∷ [])) (row id value ∷ []) rows e)
      ∙ found_end id rows (row id value) e same

pub link_found : (files : List Text) (workers fuel : Option ℕ) (rows : List Row)
    → Found OfLink rows (all files workers fuel) → (value : Text)
    → Found OfLink (grown (codes "file") value rows) (all (files ++ value ∷ []) workers fuel)
link_found files workers fuel rows f value = record {
  workers = number_kept Workers rows (grown (codes "file") value rows) workers
      (grown_other (codes "file") value (codes "workers") refl rows) f.workers;
  fuel = number_kept Fuel rows (grown (codes "file") value rows) fuel
      (grown_other (codes "file") value (codes "fuel") refl rows) f.fuel;
  file = there files f.file;
  kept = grown_other (codes "file") value (codes "record") refl rows ∙ f.kept;
}
  where
    there : (fs : List Text) → row_of_id (codes "file") rows ≡ first_row OfLink fs
        → row_of_id (codes "file") (grown (codes "file") value rows)
        ≡ first_row OfLink (fs ++ value ∷ [])
    there [] e = grown_first (codes "file") value rows e refl
    there (x ∷ fs) e = grown_row (codes "file") value rows (x ∷ fs) e
