-- The chapter "Grammar", trees apart from places: what moving does to what a tree measures, and to
-- lists of it.
use Rattle.std.proofs.Common.{◌≡◌, ℕ, ◌+◌, Bool, true, false, cond, nat_lt, List, [], ◌∷◌, ◌++◌, Option, Some, None, map, length, refl, sym, ap, ◌∙◌}
use Rattle.std.proofs.lemmas.List.{map-append, length-map}
use Rattle.std.specs.Prelude.{option_map}
use Rattle.fort_base.specs.declared.refusal.Place.{Place}
use Rattle.fort_tree.specs.declared.grouped.Joint.{Joint}
use Rattle.fort_tree.specs.declared.grouped.Joint.TheVariants.{Beside, Behind}
use Rattle.fort_tree.specs.declared.grouped.Row.{Row}
use Rattle.fort_tree.specs.declared.spot.Spot.{Spot}
use Rattle.fort_tree.specs.declared.expr.Prefix.{Prefix}
use Rattle.fort_tree.specs.declared.expr.Prefix.TheVariants as a_prefix
use Rattle.fort_tree.specs.Measured.{Measured, Joined, Listed, listed_parts, all_flats, all_crowded, made_of, made_in_type, over, maybe_measured, block_measured, most_items}
use Rattle.fort_tree.specs.Measures.{prefix_spot, var_spot}
use Rattle.fort_tree_law_moved.specs.Spots.{moved_spot, moved_sign, moved_prefix}

module _ (g : Place → Place) where
  -- how a unit stands to the one before it, moved
  abbrev pub moved_joint : Joint → Joint
  moved_joint Beside = Beside
  moved_joint (Behind sign gap) = Behind (moved_sign g sign) gap

  -- a flat expression as a row, moved
  abbrev pub moved_row : Row → Row
  moved_row r = record { place = g r.place; joints = map moved_joint r.joints }

  -- what a tree measures, moved
  abbrev pub moved_measured : Measured → Measured
  moved_measured m =
      record {
        spot = moved_spot g m.spot;
        flats = map moved_row m.flats;
        crowded = map g m.crowded;
      }

  -- the same of a further unit
  abbrev pub moved_joined : Joined → Joined
  moved_joined j = record { joint = moved_joint j.joint; unit = moved_measured j.unit }

  -- the same of a list
  abbrev pub moved_listed : Listed → Listed
  moved_listed l = record { parts = map moved_measured l.parts }

  -- ---- lists

  -- the flat expressions of several trees
  pub flats_move : (ms : List Measured)
      → all_flats (map moved_measured ms) ≡ map moved_row (all_flats ms)
  flats_move [] = refl
  flats_move (m ∷ ms) =
      (λ i. map moved_row m.flats ++ flats_move ms i)
      ∙ sym (map-append moved_row m.flats (all_flats ms))

  -- the crowded forms of several trees
  pub crowded_move : (ms : List Measured)
      → all_crowded (map moved_measured ms) ≡ map g (all_crowded ms)
  crowded_move [] = refl
  crowded_move (m ∷ ms) =
      (λ i. map g m.crowded ++ crowded_move ms i) ∙ sym (map-append g m.crowded (all_crowded ms))

  -- parts behind parts
  pub together : (ys ws : List Measured) {xs zs : List Measured} → xs ≡ map moved_measured ys
      → zs ≡ map moved_measured ws → xs ++ zs ≡ map moved_measured (ys ++ ws)
  together ys ws p q = (λ i. p i ++ q i) ∙ sym (map-append moved_measured ys ws)

  -- parts behind a part
  pub next : (m : Measured) (ys : List Measured) {xs : List Measured} → xs ≡ map moved_measured ys
      → (moved_measured m ∷ xs) ≡ map moved_measured (m ∷ ys)
  next m ys q = λ i. moved_measured m ∷ q i

  -- places behind places
  pub gathered : (ys ws : List Place) {xs zs : List Place} → xs ≡ map g ys → zs ≡ map g ws
      → xs ++ zs ≡ map g (ys ++ ws)
  gathered ys ws p q = (λ i. p i ++ q i) ∙ sym (map-append g ys ws)

  -- what may be left out
  pub maybe_moves : (o : Option Measured)
      → maybe_measured (option_map moved_measured o) ≡ map moved_measured (maybe_measured o)
  maybe_moves None = refl
  maybe_moves (Some m) = refl

  -- the parts of a list that may be left out
  pub listed_moves : (o : Option Listed)
      → listed_parts (option_map moved_listed o) ≡ map moved_measured (listed_parts o)
  listed_moves None = refl
  listed_moves (Some l) = refl

  -- as many parts as before
  pub listed_length : (o : Option Listed)
      → length (listed_parts (option_map moved_listed o)) ≡ length (listed_parts o)
  listed_length o = ap length (listed_moves o) ∙ length-map (listed_parts o) moved_measured

  -- one more than the parts
  pub one_more : {A : Type 0} (f : A → A) (xs : List A) → 1 + length (map f xs) ≡ 1 + length xs
  one_more f xs = λ i. 1 + length-map xs f i

  -- ---- forms with too many parts

  -- the place of a form, or none
  over_if : (b : Bool) (p : Place) → cond b (g p ∷ []) [] ≡ map g (cond b (p ∷ []) [])
  over_if true p = refl
  over_if false p = refl

  -- the place of a form with too many parts
  pub over_moves : (most : ℕ) (p : Place) {n k : ℕ} {q : Place} → n ≡ k → q ≡ g p
      → over most n q ≡ map g (over most k p)
  over_moves most p {k = k} e f = (λ i. over most (e i) (f i)) ∙ over_if (nat_lt most k) p

  -- ---- forms

  -- what a form measures
  pub made_moves : (s : Spot) (own : List Place) (ms : List Measured) {t : Spot} {ps : List Place}
      {parts : List Measured} → t ≡ moved_spot g s → ps ≡ map g own → parts ≡ map moved_measured ms
      → made_of t ps parts ≡ moved_measured (made_of s own ms)
  made_moves s own ms e p q =
      λ i. record {
        spot = e i;
        flats = (ap all_flats q ∙ flats_move ms) i;
        crowded = gathered own (all_crowded ms) p (ap all_crowded q ∙ crowded_move ms) i;
      }

  -- what a type measures
  pub made_type_moves : (s : Spot) (own : List Place) (ms : List Measured) {t : Spot}
      {ps : List Place} {parts : List Measured} → t ≡ moved_spot g s → ps ≡ map g own
      → parts ≡ map moved_measured ms
      → made_in_type t ps parts ≡ moved_measured (made_in_type s own ms)
  made_type_moves s own ms e p q =
      λ i. record {
        spot = e i;
        flats = [];
        crowded = gathered own (all_crowded ms) p (ap all_crowded q ∙ crowded_move ms) i;
      }

  -- what a block measures
  pub block_moves : (ms : List Measured)
      → block_measured (map moved_measured ms) ≡ map moved_measured (block_measured ms)
  block_moves [] = refl
  block_moves (m ∷ ms) =
      λ i. made_moves m.spot (over most_items (length (m ∷ ms)) m.spot.place) (m ∷ ms) refl
      (over_moves most_items m.spot.place (length-map (m ∷ ms) moved_measured) refl) refl i ∷ []

  -- the units of a flat expression
  pub units_move : (js : List Joined)
      → map (λ (j : Joined). j.unit) (map moved_joined js)
      ≡ map moved_measured (map (λ (j : Joined). j.unit) js)
  units_move [] = refl
  units_move (j ∷ js) = λ i. moved_measured j.unit ∷ units_move js i

  -- what stands between the units of a flat expression
  pub joints_move : (js : List Joined)
      → map (λ (j : Joined). j.joint) (map moved_joined js)
      ≡ map moved_joint (map (λ (j : Joined). j.joint) js)
  joints_move [] = refl
  joints_move (j ∷ js) = λ i. moved_joint j.joint ∷ joints_move js i

  -- where a unit begins
  pub prefix_spot_moves : (o : Option Prefix) (s : Spot)
      → prefix_spot (option_map (moved_prefix g) o) (moved_spot g s)
      ≡ moved_spot g (prefix_spot o s)
  prefix_spot_moves None s = refl
  prefix_spot_moves (Some (a_prefix.Minus t)) s = refl
  prefix_spot_moves (Some (a_prefix.Not t)) s = refl

  -- where a declaration of a variable begins
  pub var_spot_moves : (o : Option Spot) (s : Spot)
      → var_spot (option_map (moved_spot g) o) (moved_spot g s) ≡ moved_spot g (var_spot o s)
  var_spot_moves None s = refl
  var_spot_moves (Some t) s = refl
