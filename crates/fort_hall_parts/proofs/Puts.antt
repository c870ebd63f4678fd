-- A part in the term of its book.
use Rattle.std.proofs.Common.{◌≡◌, ℕ, ◌+◌, ◌&&◌, ◌||◌, List, [], ◌∷◌, ◌++◌, length, slice_set, refl, ap, sym, ◌∙◌, subst, arith}
use Rattle.std.specs.Prelude.{IsTrue}
use Rattle.std.specs.List.{list_any}
use Rattle.fort_core.specs.declared.term.Term.{Term}
use Rattle.fort_machine.specs.Ends.{is_still, is_thrown, stepped, standing, open_yet}
use Rattle.fort_machine.specs.Frames.{on, passed, plug, road, trodden, with_mark}
use Rattle.fort_machine.proofs.Runs.{plug_append, road_append}
use Rattle.fort_frames.specs.Frames.{frame_of, IsInOrder}
use Rattle.fort_frames.specs.Heads.{form_of, suits}
use Rattle.fort_frames.proofs.Same.{passed_append}
use Rattle.fort_frames_moves.specs.Turns.{raw_form}
use Rattle.fort_frames_moves.specs.declared.across.Next.{Next}
use Rattle.fort_frames_moves.proofs.Parts.{open_form}
use Rattle.fort_hall_law_books.specs.Puts.{IsPut}
use Rattle.fort_hall_parts.proofs.Marks.{no_mark, after_first}
use Rattle.fort_hall_parts.specs.Parts.{IsPlain}
use Rattle.fort_hall_parts.specs.declared.node.InOrder.{InOrder}
use Rattle.fort_hall_parts.specs.declared.node.ParallelForm.{ParallelForm}
use Rattle.fort_hall_parts.proofs.Forms.{order_number, order_beside}
use Rattle.fort_hall_parts.proofs.Rounds.{round, round_part, round_passed, round_road, round_trodden}

-- the part is the term
pub put_here : (t part next : Term) (path : List ℕ) → length path ≡ 0 → t ≡ part
    → IsPut t path part next next
put_here t part next [] e same = record {
  frames = [];
  is_term = same;
  is_path = refl;
  reached = refl;
  is_new = refl;
}
put_here t part next (n ∷ ns) e same = let f : ⊥ = omega (arith, e) in absurd f

-- the same term
pub put_same : (t t' part next u : Term) (path path' : List ℕ) → t ≡ t' → path' ≡ path
    → IsPut t path part next u → IsPut t' path' part next u
put_same t t' part next u path path' e q k =
    subst (λ x. IsPut x path' part next u) e (subst (λ x. IsPut t x part next u) (sym q) k)

-- it stands in a form that goes from left to right
pub put_order : (form : InOrder) (path : List ℕ) (part next u w : Term)
    → IsInOrder form.frame → IsPut form.part path part next u → w ≡ on (frame_of form.frame) u
    → IsPut (on (frame_of form.frame) form.part) path part next w
put_order form path part next u w g k e =
    let f = frame_of form.frame in
    record {
      frames = f ∷ k.frames;
      is_term = ap (on f) k.is_term;
      is_path = ap (λ ns. ns ++ road k.frames) (order_number form.frame g) ∙ k.is_path;
      reached =
          λ i. (list_any is_thrown (order_beside form.frame g i)
          && is_still (plug k.frames part)) || k.reached i;
      is_new =
          e ∙ ap (on f) (k.is_new
          ∙ ap (λ ns. plug (with_mark ns (trodden k.frames)) next) (sym (order_number form.frame g)));
    }

-- it stands in a part of a parallel form
pub put_node : (node : ParallelForm) (n : Next) (rest : List ℕ) (part next u made w : Term)
    (parts : List Term) → IsTrue (suits node.head node.parts) → IsPlain node.parts n
    → standing part ≡ open_yet → IsPut n.part rest part next u → made ≡ stepped u
    → parts ≡ slice_set node.parts n.«at» made → w ≡ form_of node.head parts
    → IsPut (raw_form node.head node.parts) (n.«at» ∷ rest) part next w
put_node node n rest part next u made w parts suits plain is_open k m ps e =
    let h = node.head in
    let ts = node.parts in
    let fs = round h ts n in
    let unmarked = no_mark k.frames part n.part k.is_term is_open plain.unmarked in
    record {
      frames = fs ++ k.frames;
      is_term =
          open_form h ts n plain.next ∙ sym (round_part h ts n suits plain.next)
          ∙ ap (plug fs) k.is_term ∙ sym (plug_append fs k.frames part);
      is_path =
          road_append fs k.frames ∙ (λ j. round_road h ts n suits plain.next j ++ k.is_path j);
      reached = passed_append fs k.frames part
          (ap (passed fs) (sym k.is_term) ∙ round_passed h ts n suits plain.next) k.reached;
      is_new =
          e ∙ ap (form_of h) (ps ∙ ap (slice_set ts n.«at») m)
          ∙ sym (round_trodden h ts n u suits plain.next)
          ∙ ap (plug (trodden fs)) k.is_new ∙ after_first fs k.frames next unmarked;
    }
