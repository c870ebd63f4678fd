-- Each call keeps the rule of the deck.
use Rattle.std.proofs.Common.{◌≡◌, ◌≢◌, ℕ, zero, suc, ◌+◌, ◌<◌, true, false, true≢false, List, [], ◌∷◌, ◌++◌, length, set, refl, sym, ap, ◌∙◌, subst, arith, append_assoc}
use Rattle.std.specs.Prelude.{sum_by}
use Rattle.std.proofs.lemmas.List.{append-nil}
use Rattle.std.proofs.lemmas.List.Sums.{sum_by-append, sum_by_push, sum_by-cons}
use Rattle.std.proofs.lemmas.List.Elements.{All-append, All-cons}
use mathlib.Core.Option.{some, some-injective, some-ne-none}
use lib.ListN.{get_elem?}
use Rattle.crossbeam_deque.specs.Tasks.{Pushes, Takes, Pops, Finds, FindsFew, Forks, Merges}
use Rattle.crossbeam_deque.proofs.Lists.{set_here, set_else}
use Rattle.fort_deck.specs.declared.job.Job.{Job}
use Rattle.fort_deck.specs.declared.view.Hand.{Hand}
use Rattle.fort_deck.specs.declared.view.View.{View}
use Rattle.fort_deck.specs.Thefts.{Theft, jobs_of, jobs_by}
use Rattle.fort_deck.specs.Views.{founder, nobody, owning, robbing, one_more, newcomer, one_less, hand_of_view}
use Rattle.fort_deck.specs.Dealt.{is_out, Fits, IsHand, Holds, Dealt}
use Rattle.fort_deck.specs.Calls.{Puts, Owns, AllStolen, Steals, HadFew}
use Rattle.fort_deck.proofs.Weights.{inside, seats_set, seats_push, front_of_push, sum_set}
use Rattle.fort_deck.proofs.Numbers.{new_thefts, jobs_more, own_more, other_more, given_new, none_yet, seated, seated_here, seated_else}

abbrev weigh : (Job → ℕ) → View → ℕ
weigh weight v = sum_by weight v.stolen

abbrev weigh_hand : (Job → ℕ) → Hand → ℕ
weigh_hand weight hand = sum_by weight hand.stolen

-- the rule, of the owner whose view stands at the seat 0
pub of_owner : (jobs : List Job) (views : List View) (v : View) → Dealt jobs views
    → get_elem? views 0 ≡ some v → Holds v jobs views
of_owner jobs views v d at =
    subst (λ (o : View). Holds o jobs views) (some-injective d.0 v (sym d.1.first ∙ at)) d.1

out_of : (v : View) → v.steals ≡ true → is_out v ≡ 1
out_of v e = rw e refl

home_of : (v : View) → v.steals ≡ false → is_out v ≡ 0
home_of v e = rw e refl

one_seat : (x v : View) (j : ℕ) → get_elem? (x ∷ []) j ≡ some v → x ≡ v
one_seat x v zero e = some-injective x v e
one_seat x v (suc j) e = absurd (some-ne-none v (sym e))

pub begins : Dealt [] (founder ∷ [])
begins = (
  founder,
  record {
    thefts = [];
    seat = λ _. 0;
    first = refl;
    plain = refl;
    stack_is = refl;
    balance = λ _. refl;
    stolen = λ weight. refl;
    out_is = refl;
    given = λ k d l. absurd (omega arith);
    each = λ j v e. subst (Fits [] (λ _. 0) 0 j) (one_seat founder v j e)
        (record { thief = λ h. absurd (true≢false (sym h)); idle = λ _. refl });
    hands = λ k d l. absurd (omega arith);
  },
)

-- the owner's jobs change, and nothing else
deals : (v : View) (put owned stack jobs after : List Job) (views : List View)
    (r : Holds v jobs views) → get_elem? views 0 ≡ some v → stack ≡ jobs_of r.thefts ++ after
    → ((weight : Job → ℕ) → sum_by weight put ≡ sum_by weight owned + sum_by weight stack)
    → Holds (owning v put owned stack) after (set views 0 (owning v put owned stack))
deals v put owned stack jobs after views r at stack_is balance =
    let w = owning v put owned stack in record {
      thefts = r.thefts;
      seat = r.seat;
      first = set_here views 0 w (inside views 0 v at);
      plain = r.plain;
      stack_is = stack_is;
      balance = balance;
      stolen = λ weight. let t = r.stolen weight in let s = sum_set (weigh weight) views 0 v w at
          in omega arith;
      out_is = let t = r.out_is in let s = sum_set is_out views 0 v w at in omega arith;
      given = r.given;
      each = seats_set (Fits r.thefts r.seat v.thieves) views 0 w (let f = r.each 0 v at
          in record { thief = f.thief; idle = f.idle }) (λ j u _ e. r.each j u e);
      hands = r.hands;
    }

pub puts : (v : View) (xs : List Job) → Pushes Dealt 0 v xs (Puts v xs)
puts v xs items views d at =
    let r = of_owner items views v d at in
    let w = owning v (v.put ++ xs) v.owned (v.stack ++ xs) in (
      w,
      (
        w,
        deals v (v.put ++ xs) v.owned (v.stack ++ xs) items (items ++ xs) views r at
            (ap (λ (l : List Job). l ++ xs) r.stack_is ∙ append_assoc (jobs_of r.thefts) items xs)
            (λ weight. let b = r.balance weight
            in omega (
              arith,
              sum_by-append weight v.put xs,
              sum_by-append weight v.stack xs,
            )),
      ),
      refl,
    )

-- the owner takes the last job
pub owns_one : (v : View) (x : Job) (items : List Job) (views : List View)
    (r : Holds v (items ++ x ∷ []) views) → get_elem? views 0 ≡ some v
    → (v.stack ≡ (jobs_of r.thefts ++ items) ++ x ∷ [])
    × Holds (owning v v.put (v.owned ++ x ∷ []) (jobs_of r.thefts ++ items)) items
    (set views 0 (owning v v.put (v.owned ++ x ∷ []) (jobs_of r.thefts ++ items)))
owns_one v x items views r at =
    let front = jobs_of r.thefts ++ items in
    let is : v.stack ≡ front ++ x ∷ [] =
    r.stack_is ∙ sym (append_assoc (jobs_of r.thefts) items (x ∷ [])) in (
      is,
      deals v v.put (v.owned ++ x ∷ []) front (items ++ x ∷ []) items views r at refl
          (λ weight. let b = r.balance weight
          in let s : sum_by weight v.stack ≡ sum_by weight (front ++ x ∷ []) =
          ap (sum_by weight) is
          in omega (
            arith,
            sum_by-append weight v.owned (x ∷ []),
            sum_by-append weight front (x ∷ []),
          )),
    )

pub owns : (v : View) → Pops Dealt 0 v (Owns v)
owns v x items views d at =
    let r = of_owner (items ++ x ∷ []) views v d at in
    let front = jobs_of r.thefts ++ items in
    let w = owning v v.put (v.owned ++ x ∷ []) front in
    let o = owns_one v x items views r at in
    (w, (w, o.1), (front, o.0, refl))

pub all_stolen : (v : View) → Finds Dealt 0 v (AllStolen v)
all_stolen v views d at =
    let r = of_owner [] views v d at
    in (r.thefts, r.stack_is ∙ append-nil (jobs_of r.thefts), r.given)

-- a thief is not the owner
not_first : (o : View) (jobs : List Job) (views : List View) (id : ℕ) (v : View)
    → Holds o jobs views → get_elem? views id ≡ some v → v.steals ≡ true → id ≢ 0
not_first o jobs views id v r at steals is =
    let same : o ≡ v =
    some-injective o v (sym r.first ∙ subst (λ (k : ℕ). get_elem? views k ≡ some v) is at) in
    true≢false (sym steals ∙ (ap (λ (u : View). u.steals) (sym same) ∙ r.plain))

pub steals : (id : ℕ) (v : View) → v.steals ≡ true → Takes Dealt id v 1 (Steals v)
steals id v thieving xs items views some_job few d at =
    let o = d.0 in
    let r = d.1 in
    let w = robbing v xs in
    let n = v.number in
    let thefts = r.thefts ++ new_thefts n xs in
    let mine = (r.each id v at).thief thieving in
    let elsewhere : id ≢ 0 = not_first o (xs ++ items) views id v r at thieving in
    let kept : (k : ℕ) → r.seat k ≢ id
    → jobs_by k r.thefts ≡ jobs_by k thefts =
    λ k apart. sym (other_more r.thefts n k xs (λ e. apart (sym (ap r.seat e) ∙ mine.0))
    ∙ append-nil (jobs_by k r.thefts)) in (
      w,
      (
        o,
        record {
          thefts = thefts;
          seat = r.seat;
          first = set_else views id 0 w (λ e. elsewhere (sym e)) ∙ r.first;
          plain = r.plain;
          stack_is =
              r.stack_is
              ∙ (sym (append_assoc (jobs_of r.thefts) xs items) ∙ ap (λ
              (l : List Job). l ++ items) (sym (jobs_more r.thefts n xs)));
          balance = r.balance;
          stolen = λ weight.
              let t = r.stolen weight in
              let s = sum_set (weigh weight) views id v w at in
              let more : sum_by weight (jobs_of thefts) ≡ sum_by weight (jobs_of r.thefts ++ xs) =
              ap (sum_by weight) (jobs_more r.thefts n xs) in
              omega (
                arith,
                sum_by-append weight (jobs_of r.thefts) xs,
                sum_by-append weight v.stolen xs,
              );
          out_is = let t = r.out_is in let s = sum_set is_out views id v w at in omega arith;
          given = All-append (λ
              (t : Theft). t.by
              < o.thieves) r.thefts (new_thefts n xs) r.given (given_new n o.thieves xs mine.1);
          each = seats_set (Fits thefts r.seat o.thieves) views id w
              (record {
                thief =
                    λ _. (
                      mine.0,
                      mine.1,
                      ap (λ
                          (l : List Job). l ++ xs) mine.2 ∙ sym (own_more r.thefts n xs),
                    );
                idle = λ h. absurd (true≢false (sym thieving ∙ h));
              })
              (λ j u apart e. let f = r.each j u e
              in record {
                thief = λ h. let t = f.thief h
                    in (t.0, t.1, t.2 ∙ kept u.number (λ q. apart (sym t.0 ∙ q)));
                idle = f.idle;
              });
          hands = λ k hand l. let h = r.hands k hand l
              in record {
                seat_is = h.seat_is;
                given = h.given;
                stolen = h.stolen ∙ kept _ (λ q. elsewhere (sym q ∙ h.seat_is));
              };
        },
      ),
      refl,
    )

pub had_few : (id : ℕ) (v : View) → FindsFew Dealt 1 id v (HadFew v)
had_few id v items views few d at =
    record { jobs = items; few = few; views = views; dealt = d; id = id; at = at }

pub forks : (v : View) → Forks Dealt 0 v (one_more v) (newcomer v)
forks v items views d at =
    let r = of_owner items views v d at in
    let w = one_more v in
    let u = newcomer v in
    let vs = set views 0 w in
    let seat : ℕ → ℕ = seated v.thieves (length vs) r.seat in
    let before : (k : ℕ) → k < v.thieves
    → seat k ≡ r.seat k = λ k l. seated_else v.thieves (length vs) r.seat k (λ e. omega arith)
    in
    let fits : (j : ℕ) (x : View) → Fits r.thefts r.seat v.thieves j x
    → Fits r.thefts seat (v.thieves + 1) j x =
    λ j x f. record {
      thief = λ h. let t = f.thief h in let l = t.1
          in (before x.number t.1 ∙ t.0, omega arith, t.2);
      idle = f.idle;
    } in (
      w,
      record {
        thefts = r.thefts;
        seat = seat;
        first = front_of_push vs 0 w u (set_here views 0 w (inside views 0 v at));
        plain = r.plain;
        stack_is = r.stack_is;
        balance = r.balance;
        stolen = λ weight. let t = r.stolen weight in let s = sum_set (weigh weight) views 0 v w at
            in let z : weigh weight u ≡ 0 = refl in omega (arith, sum_by_push (weigh weight) vs u);
        out_is = let t = r.out_is in let s = sum_set is_out views 0 v w at
            in let z : is_out u ≡ 1 = refl in omega (arith, sum_by_push is_out vs u);
        given = λ k d l. let h = r.given k d l in omega arith;
        each = seats_push (Fits r.thefts seat (v.thieves + 1)) vs u
            (record {
              thief =
                  λ _. (
                    seated_here v.thieves (length vs) r.seat,
                    omega arith,
                    sym (none_yet v.thieves r.thefts r.given),
                  );
              idle = λ _. refl;
            })
            (seats_set (Fits r.thefts seat (v.thieves + 1)) views 0 w (let f =
            fits 0 v (r.each 0 v at)
            in record { thief = f.thief; idle = f.idle })
            (λ j x _ e. fits j x (r.each j x e)));
        hands = λ k hand l. let h = r.hands k hand l in let g = h.given
            in record {
              seat_is = before _ h.given ∙ h.seat_is;
              given = omega arith;
              stolen = h.stolen;
            };
      },
    )

pub merges : (v : View) (other : ℕ) (u : View) → u.steals ≡ true
    → Merges Dealt 0 v other u (one_less v u) nobody
merges v other u thieving items views d at apart there =
    let r = of_owner items views v d at in
    let w = one_less v u in
    let vs = set views 0 w in
    let was : get_elem? views other ≡ some u = sym (set_else views 0 other w apart) ∙ there in
    let theirs = (r.each other u was).thief thieving in
    let seat : ℕ → ℕ = seated u.number 0 r.seat in
    let else_of : (k : ℕ) → r.seat k ≢ other
    → seat k ≡ r.seat k =
    λ k ne. seated_else u.number 0 r.seat k (λ e. ne (ap r.seat e ∙ theirs.0)) in
    let one : is_out u ≡ 1 = out_of u thieving in
    let zero' : is_out v ≡ 0 = home_of v r.plain in
    let sums : sum_by is_out (set vs other nobody) + 1 ≡ v.out =
    (let t = r.out_is in let s = sum_set is_out views 0 v w at
    in let q = sum_set is_out vs other u nobody there in omega arith) in (
      w,
      record {
        thefts = r.thefts;
        seat = seat;
        first = set_else vs other 0 nobody (λ e. apart (sym e))
            ∙ set_here views 0 w (inside views 0 v at);
        plain = r.plain;
        stack_is = r.stack_is;
        balance = r.balance;
        stolen = λ weight.
            let t = r.stolen weight in
            let s = sum_set (weigh weight) views 0 v w at in
            let q = sum_set (weigh weight) vs other u nobody there in
            let z : weigh weight nobody ≡ 0 = refl in
            omega (arith, sum_by-cons (weigh_hand weight) (hand_of_view u) v.hands);
        out_is = omega arith;
        given = r.given;
        each = λ j x e. seats_set (Fits r.thefts seat v.thieves) vs other nobody
            (record { thief = λ h. absurd (true≢false (sym h)); idle = λ _. refl })
            (λ i y ne f. seats_set (λ (k : ℕ) (z : View). k ≢ other
            → Fits r.thefts seat v.thieves k z) views 0 w
            (λ _. let g = r.each 0 v at
            in record { thief = λ h. absurd (true≢false (sym h ∙ r.plain)); idle = g.idle })
            (λ k z _ p away. let g = r.each k z p
            in record {
              thief = λ h. let t = g.thief h
                  in (else_of z.number (λ q. away (sym t.0 ∙ q)) ∙ t.0, t.1, t.2);
              idle = g.idle;
            })
            i y f ne)
            j x e;
        hands = All-cons (IsHand r.thefts seat v.thieves) (hand_of_view u) v.hands
            (record {
              seat_is = seated_here u.number 0 r.seat;
              given = theirs.1;
              stolen = theirs.2;
            })
            (λ k hand l. let h = r.hands k hand l
            in record {
              seat_is = else_of _ (λ q. apart (sym q ∙ h.seat_is)) ∙ h.seat_is;
              given = h.given;
              stolen = h.stolen;
            });
      },
    )
