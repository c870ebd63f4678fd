-- The one grouping of a part from those of its halves.
use Rattle.std.proofs.Common.{◌≡◌, ℕ, ◌+◌, Option, Some, None, Result, Ok, Err, IfOk, List, refl, ap, arith, subst}
use Rattle.fort_ops.specs.declared.op.Op.{Op}
use Rattle.fort_tree.specs.declared.grouped.Joint.{Joint}
use Rattle.fort_tree.specs.declared.grouped.Grouped.{Grouped, out-Grouped}
use Rattle.fort_tree.specs.declared.grouped.Grouped as tree
use Rattle.fort_group.specs.Joints.{between}
use Rattle.fort_group.specs.Grouping.{IsGrouping, unit, juxt, binary, chain}
use Rattle.fort_group.specs.Joining.{Joins, IsWeakest, Sound, IsTheGrouping}
use Rattle.fort_group.proofs.Least.{juxt_adjacent, least, chained_least}
use Rattle.fort_group.proofs.Split.{split_at}
use Rattle.fort_group.proofs.Compose.{made}

module _ (joints : List Joint) where
  only_at : (i j : ℕ) (h : Grouped) → IsGrouping joints i j h → i ≡ j → tree.Unit i ≡ h
  only_at i j h unit e = refl
  only_at i j h (juxt {units = units} r) e =
      let d = (juxt_adjacent joints i j units r).0 in absurd (omega arith)
  only_at i j h (binary {k = k} {left = l} {right = r} b n gl gr fl fr) e =
      let d = (least joints i k l gl).0 in let d' = (least joints (k + 1) j r gr).0
      in absurd (omega arith)
  only_at i j h (chain {ops = ops} {parts = parts} c) e =
      let d = (chained_least joints i j ops parts c).0 in absurd (omega arith)

  pub one_unit : (i j : ℕ) → i ≡ j → IsTheGrouping joints i j (Some (tree.Unit i))
  one_unit i j e =
      record {
        sound = subst (λ v. IsGrouping joints i v (tree.Unit i)) e unit;
        only = λ h g. ap Some (only_at i j h g e);
      }

  pub none_left : (i j k : ℕ) (s : Op) → IsWeakest joints i j k → between joints k ≡ Some s
      → IsTheGrouping joints i k None → IsTheGrouping joints i j None
  none_left i j k s w e a =
      record {
        sound = tt;
        only = λ h g. let p = split_at joints i j h k s g w e
            in let z = a.only p.left p.groups_left in absurd cc;
      }

  pub none_right : (i j k : ℕ) (s : Op) → IsWeakest joints i j k → between joints k ≡ Some s
      → IsTheGrouping joints (k + 1) j None → IsTheGrouping joints i j None
  none_right i j k s w e a =
      record {
        sound = tt;
        only = λ h g. let p = split_at joints i j h k s g w e
            in let z = a.only p.right p.groups_right in absurd cc;
      }

  sound_join : (i j k : ℕ) (s : Op) (l r : Grouped) (o : Option Grouped) → between joints k ≡ Some s
      → IsGrouping joints i k l → IsGrouping joints (k + 1) j r → Joins s l r o → Sound joints i j o
  sound_join i j k s l r (Some g) e gl gr m = made joints i k j s l r g e gl gr m
  sound_join i j k s l r None e gl gr m = tt

  pub both : (i j k : ℕ) (s : Op) (l r : Grouped) (o : Option Grouped) → IsWeakest joints i j k
      → between joints k ≡ Some s
      → IsTheGrouping joints i k (Some l) → IsTheGrouping joints (k + 1) j (Some r) → Joins s l r o
      → IsTheGrouping joints i j o
  both i j k s l r o w e a b m = record {
    sound = sound_join i j k s l r o e a.sound b.sound m;
    only = λ h g.
        let p = split_at joints i j h k s g w e in
        let x : l ≡ p.left = let z = a.only p.left p.groups_left in cc in
        let y : r ≡ p.right = let z = b.only p.right p.groups_right in cc in
        p.joins o (subst (λ v. Joins s p.left v o) y (subst (λ v. Joins s v r o) x m));
  }

pub if_ok_map : {A E : Type 0} (P Q : A → Type 0) (r : Result A E) → ((a : A) → P a → Q a)
    → IfOk r P → IfOk r Q
if_ok_map P Q (Ok a) f h = f a h
if_ok_map P Q (Err e) f h = h
