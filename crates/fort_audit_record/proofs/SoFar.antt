-- The bytes that were read so far, by what they made of a reader.
use Rattle.std.proofs.Common.{◌≡◌, ◌≢◌, ℕ, ◌+◌, ◌<◌, ◌^◌, Bool, true, false, List, [], ◌∷◌, ◌++◌, length, take, decimal, Option, Some, None, IfSome, refl, ap, sym, ◌∙◌, append_assoc, append-nil}
use Rattle.fort_core.specs.declared.pick.Pick.{Pick}
use Rattle.fort_audit_record.specs.declared.reader.Word.{Word}
use Rattle.fort_audit_record.specs.declared.reader.Word.TheVariants as word
use Rattle.fort_audit_record.specs.declared.reader.Field.{Field}
use Rattle.fort_audit_record.specs.declared.reader.Field.TheVariants as field
use Rattle.fort_audit_record.specs.declared.reader.Stage.{Stage}
use Rattle.fort_audit_record.specs.declared.reader.Stage.TheVariants as stage
use Rattle.fort_audit_record.specs.declared.reader.Open.{Open}
use Rattle.fort_audit_record.specs.declared.reader.Reader.{Reader}
use Rattle.fort_audit_record.specs.Text.{path_text, pick_text, picks_text, ending_text, FitPath, FitPicks, FitEnding}
use Rattle.fort_audit_record.specs.Reading.{word_text, way_word}
use Rattle.fort_audit_record.proofs.Texts.{head_text, picks_append}

-- the picks read so far, with those of the attempts that are open
abbrev pub lines : List Open → List Pick → List ℕ
lines [] ps = picks_text ps
lines (o ∷ os) ps = picks_text o.before ++ (head_text o.path.0 ++ lines os ps)

pub lines_last : (os : List Open) (o : Open) (ps : List Pick)
    → lines (os ++ o ∷ []) ps ≡ lines os o.before ++ (head_text o.path.0 ++ picks_text ps)
lines_last [] o ps = refl
lines_last (q ∷ os) o ps =
    ap (λ x. picks_text q.before ++ (head_text q.path.0 ++ x)) (lines_last os o ps)
    ∙ ap (λ x. picks_text q.before ++ x)
    (sym (append_assoc (head_text q.path.0) (lines os o.before)
    (head_text o.path.0 ++ picks_text ps)))
    ∙ sym (append_assoc (picks_text q.before) (head_text q.path.0 ++ lines os o.before)
    (head_text o.path.0 ++ picks_text ps))

pub lines_more : (os : List Open) (ps : List Pick) (p : Pick)
    → lines os (ps ++ p ∷ []) ≡ lines os ps ++ pick_text p
lines_more [] ps p =
    picks_append ps (p ∷ []) ∙ ap (λ x. picks_text ps ++ x) (append-nil (pick_text p))
lines_more (o ∷ os) ps p =
    ap (λ x. picks_text o.before ++ (head_text o.path.0 ++ x)) (lines_more os ps p)
    ∙ ap (λ x. picks_text o.before ++ x)
    (sym (append_assoc (head_text o.path.0) (lines os ps) (pick_text p)))
    ∙ sym (append_assoc (picks_text o.before) (head_text o.path.0 ++ lines os ps) (pick_text p))

-- the picks of the run, and those behind `out`
abbrev pub body : Bool → List Pick → List Open → List Pick → List ℕ
body true main os ps = picks_text main ++ (word_text word.Out ++ lines os ps)
body false main os ps = lines os ps

abbrev pub top : ℕ → List ℕ → List ℕ
top fuel rest = word_text word.Head ++ (decimal fuel ++ (10 ∷ rest))

pub top_more : (fuel : ℕ) (a b : List ℕ) → top fuel (a ++ b) ≡ top fuel a ++ b
top_more fuel a b =
    ap (λ x. word_text word.Head ++ x) (sym (append_assoc (decimal fuel) (10 ∷ a) b))
    ∙ sym (append_assoc (word_text word.Head) (decimal fuel ++ (10 ∷ a)) b)

-- all before a line
abbrev pub before : Reader → List ℕ
before r = top r.fuel (body r.is_last r.main r.attempts r.picks)

-- all before the line of the output
abbrev pub ended : Reader → List ℕ
ended r = top r.fuel (picks_text r.picks ++ ending_text r.ending)

abbrev pub digits : Option ℕ → List ℕ
digits None = []
digits (Some n) = decimal n

-- a path so far, its last number perhaps begun
abbrev pub parts_text : List ℕ → Option ℕ → List ℕ
parts_text [] o = digits o
parts_text (m ∷ ms) o = path_text (m ∷ ms) ++ (46 ∷ digits o)

-- what stands before a word
abbrev pub word_front : Reader → Word → List ℕ
word_front r word.Head = []
word_front r word.Output = ended r
word_front r w = before r

abbrev pub field_front : Reader → Field → List ℕ
field_front r field.Fuel = word_text word.Head
field_front r field.Location = before r ++ (word_text word.Step ++ (path_text r.path ++ 32 ∷ []))
field_front r field.Base = before r ++ (word_text word.Uncaught ++ (decimal r.ty ++ 32 ∷ []))
field_front r field.Size = ended r ++ word_text word.Output

abbrev pub so_far_at : Reader → Stage → List ℕ
so_far_at r (stage.Word w k) = word_front r w ++ take k (word_text w)
so_far_at r (stage.Number f) = field_front r f ++ digits r.number
so_far_at r stage.Type = before r ++ (word_text word.Uncaught ++ digits r.part)
so_far_at r (stage.Path w) = before r ++ (word_text (way_word w) ++ parts_text r.path r.part)
so_far_at r (stage.Dash w) = before r ++ (word_text (way_word w) ++ 45 ∷ [])
so_far_at r stage.Line = before r
so_far_at r (stage.Output left) =
    ended r ++ (word_text word.Output ++ (decimal (length r.output + left) ++ (10 ∷ r.output)))

abbrev pub so_far : Reader → List ℕ
so_far r = so_far_at r r.stage

-- ---- what holds of each reader

abbrev pub FitOpen : List Open → Type 0
FitOpen [] = Unit {0}
FitOpen (o ∷ os) = FitPath o.path.0 × FitPicks o.before × FitOpen os

-- the picks of the outermost machine so far
abbrev pub outermost : List Open → List Pick → List Pick
outermost [] ps = ps
outermost (o ∷ os) ps = o.before

-- the run's own picks are read, and no attempt is open
pub record MayEnd (r : Reader) : Type 0 where
  pub none_open : r.attempts ≡ []
  pub no_last : r.is_last ≡ false

-- no pick is read
pub record IsFresh (r : Reader) : Type 0 where
  pub none_open : r.attempts ≡ []
  pub no_last : r.is_last ≡ false
  pub no_picks : r.picks ≡ []

abbrev pub MayWord : Reader → Word → Type 0
MayWord r word.Head = IsFresh r
MayWord r word.Step = Unit {0}
MayWord r word.Attempt = Unit {0}
MayWord r word.End = r.attempts ≢ []
MayWord r word.Completed = MayEnd r
MayWord r word.Uncaught = MayEnd r
MayWord r word.Out = MayEnd r
MayWord r word.Output = FitEnding r.ending

abbrev pub MayField : Reader → Field → Type 0
MayField r field.Fuel = IsFresh r
MayField r field.Location = Unit {0}
MayField r field.Base = MayEnd r
MayField r field.Size = FitEnding r.ending

abbrev pub MayStage : Reader → Stage → Type 0
MayStage r (stage.Word w k) = (k < length (word_text w)) × MayWord r w
MayStage r (stage.Number f) = MayField r f
MayStage r stage.Type = MayEnd r
MayStage r (stage.Output left) = FitEnding r.ending × (length r.output + left < 2 ^ 64)
MayStage r s = Unit {0}

-- no byte of the output is read before it
abbrev pub Silent : Reader → Stage → Type 0
Silent r (stage.Output left) = Unit {0}
Silent r st = r.output ≡ []

pub record Good (r : Reader) : Type 0 where
  pub fuel : r.fuel < 2 ^ 64
  pub main : FitPicks r.main
  pub attempts : FitOpen r.attempts
  pub picks : FitPicks r.picks
  pub path : FitPath r.path
  pub part : IfSome r.part (λ n. n < 2 ^ 32)
  pub number : IfSome r.number (λ n. n < 2 ^ 64)
  pub ty : r.ty < 2 ^ 32
  pub one_last : r.is_last ≡ true → outermost r.attempts r.picks ≡ []
  pub silent : Silent r r.stage
  pub may : MayStage r r.stage
