-- The texts of picks by their layers, and of what is left to be written.
use Rattle.std.proofs.Common.{◌≡◌, ℕ, ◌+◌, ◌*◌, ◌^◌, ◌<◌, List, [], ◌∷◌, ◌++◌, length, codes, decimal, refl, ap, sym, ◌∙◌, append_assoc, append-nil, suc-ne-zero, Bor, arith, length-append}
use Rattle.fort_base.specs.declared.ids.Loc.{Loc}
use Rattle.fort_core.specs.declared.path.Path.{Path}
use Rattle.fort_core.specs.declared.pick.Pick.{Pick, Step, Attempt, fold-roll-Pick}
use Rattle.fort_core.specs.declared.pick.Pick.TheOpen.{Pick-F}
use Rattle.fort_core.specs.declared.pick.Pick.TheVariants.{rolls-Attempt, rolls-Step}
use Rattle.fort_core.specs.Nodes.{all_nodes}
use Rattle.fort_core.proofs.Falls.{nodes-Attempt, nodes-Step}
use Rattle.fort_audit_record.specs.Text.{further, path_text, pick_layer, pick_text, picks_text, FitPath, FitPick, FitPicks}

pub step_text : (path : Path) (loc : Loc)
    → pick_text (Step path loc)
    ≡ codes "s " ++ (path_text path.0 ++ (32 ∷ (decimal loc.0 ++ 10 ∷ [])))
step_text path loc =
    ap pick_text (sym (rolls-Step path loc))
    ∙ fold-roll-Pick (List ℕ) pick_layer (Pick-F.Step path loc)

pub attempt_text : (path : Path) (inner : List Pick)
    → pick_text (Attempt path inner)
    ≡ codes "a " ++ (path_text path.0 ++ (10 ∷ (picks_text inner ++ (122 ∷ 10 ∷ []))))
attempt_text path inner =
    ap pick_text (sym (rolls-Attempt path inner))
    ∙ fold-roll-Pick (List ℕ) pick_layer (Pick-F.Attempt path inner)

-- the line with which an attempt begins
abbrev pub head_text : List ℕ → List ℕ
head_text path = codes "a " ++ (path_text path ++ 10 ∷ [])

pub attempt_parts : (path : Path) (inner : List Pick)
    → pick_text (Attempt path inner) ≡ head_text path.0 ++ (picks_text inner ++ (122 ∷ 10 ∷ []))
attempt_parts path inner =
    attempt_text path inner
    ∙ ap (λ x. codes "a " ++ x)
    (sym (append_assoc (path_text path.0) (10 ∷ []) (picks_text inner ++ (122 ∷ 10 ∷ []))))

pub picks_append : (ps qs : List Pick) → picks_text (ps ++ qs) ≡ picks_text ps ++ picks_text qs
picks_append [] qs = refl
picks_append (p ∷ ps) qs =
    ap (λ x. pick_text p ++ x) (picks_append ps qs)
    ∙ sym (append_assoc (pick_text p) (picks_text ps) (picks_text qs))

pub further_last : (ns : List ℕ) (n : ℕ) → further (ns ++ n ∷ []) ≡ further ns ++ (46 ∷ decimal n)
further_last [] n = ap (λ x. 46 ∷ x) (append-nil (decimal n))
further_last (m ∷ ms) n =
    ap (λ x. 46 ∷ (decimal m ++ x)) (further_last ms n)
    ∙ ap (λ x. 46 ∷ x) (sym (append_assoc (decimal m) (further ms) (46 ∷ decimal n)))

-- ---- what is left to be written: the rest of the innermost picks, and of those round them, the outermost first

abbrev pub closing : List (Bor (List Pick)) → List ℕ
closing [] = []
closing (w ∷ ws) = closing ws ++ (122 ∷ 10 ∷ picks_text w.now)

pub closing_last : (ws : List (Bor (List Pick))) (w : Bor (List Pick))
    → closing (ws ++ w ∷ []) ≡ (122 ∷ 10 ∷ picks_text w.now) ++ closing ws
closing_last [] w = sym (append-nil (122 ∷ 10 ∷ picks_text w.now))
closing_last (v ∷ vs) w =
    ap (λ x. x ++ (122 ∷ 10 ∷ picks_text v.now)) (closing_last vs w)
    ∙ append_assoc (122 ∷ 10 ∷ picks_text w.now) (closing vs) (122 ∷ 10 ∷ picks_text v.now)

abbrev pub left_text : List Pick → List (Bor (List Pick)) → List ℕ
left_text rest ws = picks_text rest ++ closing ws

abbrev pub wait_nodes : List (Bor (List Pick)) → ℕ
wait_nodes [] = 0
wait_nodes (w ∷ ws) = all_nodes w.now + wait_nodes ws

pub wait_nodes_last : (ws : List (Bor (List Pick))) (w : Bor (List Pick))
    → wait_nodes (ws ++ w ∷ []) ≡ wait_nodes ws + all_nodes w.now
wait_nodes_last [] w = omega arith
wait_nodes_last (v ∷ vs) w = omega (arith, wait_nodes_last vs w)

-- falls at each turn
abbrev pub left_work : List Pick → List (Bor (List Pick)) → ℕ
left_work rest ws = 2 * (all_nodes rest + wait_nodes ws) + length ws

-- ---- the turns of the loop

module _ (all : List ℕ) where
  -- a step was written
  pub after_step : (old new : List ℕ) (path : Path) (loc : Loc) (more : List Pick)
      (ws : List (Bor (List Pick))) → old ++ left_text (Step path loc ∷ more) ws ≡ all
      → new ≡ old ++ (codes "s " ++ (path_text path.0 ++ (32 ∷ (decimal loc.0 ++ 10 ∷ []))))
      → new ++ left_text more ws ≡ all
  after_step old new path loc more ws h e =
      ap (λ x. x ++ left_text more ws) (e ∙ ap (λ x. old ++ x) (sym (step_text path loc)))
      ∙ append_assoc old (pick_text (Step path loc)) (left_text more ws)
      ∙ ap (λ x. old ++ x)
      (sym (append_assoc (pick_text (Step path loc)) (picks_text more) (closing ws)))
      ∙ h

  -- an attempt's head was written, and its picks come next
  pub after_head : (old new : List ℕ) (path : Path) (inner : List Pick) (more : Bor (List Pick))
      (ws : List (Bor (List Pick))) → old ++ left_text (Attempt path inner ∷ more.now) ws ≡ all
      → new ≡ old ++ head_text path.0
      → new ++ left_text inner (ws ++ more ∷ []) ≡ all
  after_head old new path inner more ws h e =
      ap (λ x. new ++ (picks_text inner ++ x)) (closing_last ws more)
      ∙ ap (λ x. x ++ (picks_text inner ++ ((122 ∷ 10 ∷ picks_text more.now) ++ closing ws))) e
      ∙ append_assoc old (head_text path.0)
      (picks_text inner ++ ((122 ∷ 10 ∷ picks_text more.now) ++ closing ws))
      ∙ ap (λ x. old ++ x)
      (grouped (head_text path.0) (picks_text inner) (picks_text more.now) (closing ws)
      ∙ ap (λ x. (x ++ picks_text more.now) ++ closing ws) (sym (attempt_parts path inner)))
      ∙ h
    where
      grouped : (a b c d : List ℕ)
          → a ++ (b ++ ((122 ∷ 10 ∷ c) ++ d)) ≡ ((a ++ (b ++ (122 ∷ 10 ∷ []))) ++ c) ++ d
      grouped a b c d =
          ap (λ x. a ++ x) (sym (append_assoc b (122 ∷ 10 ∷ []) (c ++ d)))
          ∙ sym (append_assoc a (b ++ (122 ∷ 10 ∷ [])) (c ++ d))
          ∙ sym (append_assoc (a ++ (b ++ (122 ∷ 10 ∷ []))) c d)

  -- an attempt's end was written, and those round it go on
  pub after_end : (old new : List ℕ) (more : Bor (List Pick)) (ws : List (Bor (List Pick)))
      → old ++ left_text [] (ws ++ more ∷ []) ≡ all → new ≡ old ++ (122 ∷ 10 ∷ [])
      → new ++ left_text more.now ws ≡ all
  after_end old new more ws h e =
      ap (λ x. x ++ left_text more.now ws) e
      ∙ append_assoc old (122 ∷ 10 ∷ []) (left_text more.now ws)
      ∙ ap (λ x. old ++ x) (sym (closing_last ws more)) ∙ h

-- ---- what is left is within its bounds

abbrev pub FitWaits : List (Bor (List Pick)) → Type 0
FitWaits [] = Unit {0}
FitWaits (w ∷ ws) = FitPicks w.now × FitWaits ws

abbrev pub FitLeft : List Pick → List (Bor (List Pick)) → Type 0
FitLeft rest ws = FitPicks rest × FitWaits ws

pub fit_last : (ws : List (Bor (List Pick))) (w : Bor (List Pick)) → FitWaits (ws ++ w ∷ [])
    → FitWaits ws × FitPicks w.now
fit_last [] w h = (tt, h.0)
fit_last (v ∷ vs) w h = let i = fit_last vs w h.1 in ((h.0, i.0), i.1)

pub with_last : (ws : List (Bor (List Pick))) (w : Bor (List Pick)) → FitWaits ws → FitPicks w.now
    → FitWaits (ws ++ w ∷ [])
with_last [] w h f = (f, tt)
with_last (v ∷ vs) w h f = (h.0, with_last vs w h.1 f)

pub step_fits : (path : Path) (loc : Loc) (more : List Pick) (ws : List (Bor (List Pick)))
    → FitPath path.0 → loc.0 < 2 ^ 64 → FitLeft more ws → FitLeft (Step path loc ∷ more) ws
step_fits path loc more ws f l h = (FitPicks.fit_more (FitPick.fit_step path loc refl f l) h.0, h.1)

pub head_fits : (path : Path) (inner : List Pick) (more : Bor (List Pick))
    (ws : List (Bor (List Pick))) → FitPath path.0 → FitLeft inner (ws ++ more ∷ [])
    → FitLeft (Attempt path inner ∷ more.now) ws
head_fits path inner more ws f h =
    let i = fit_last ws more h.1
    in (FitPicks.fit_more (FitPick.fit_attempt path inner refl f h.0) i.1, i.0)

pub end_fits : (more : Bor (List Pick)) (ws : List (Bor (List Pick))) → FitLeft more.now ws
    → FitLeft [] (ws ++ more ∷ [])
end_fits more ws h = (FitPicks.fit_none, with_last ws more h.1 h.0)

pub fits_step : (path : Path) (loc : Loc) → FitPath path.0 → loc.0 < 2 ^ 64
    → FitPick (Step path loc)
fits_step path loc f l = FitPick.fit_step path loc refl f l

pub fits_attempt : (path : Path) (inner : List Pick) → FitPath path.0 → FitPicks inner
    → FitPick (Attempt path inner)
fits_attempt path inner f i = FitPick.fit_attempt path inner refl f i

pub attempt_written : (path : Path) (inner : List Pick) (old head picks new : List ℕ)
    → head ≡ old ++ (codes "a " ++ (path_text path.0 ++ 10 ∷ [])) → picks ≡ head ++ picks_text inner
    → new ≡ picks ++ (122 ∷ 10 ∷ [])
    → new ≡ old ++ pick_text (Attempt path inner)
attempt_written path inner old head picks new e f g =
    g ∙ ap (λ x. x ++ (122 ∷ 10 ∷ [])) (f ∙ ap (λ x. x ++ picks_text inner) e)
    ∙ append_assoc (old ++ head_text path.0) (picks_text inner) (122 ∷ 10 ∷ [])
    ∙ append_assoc old (head_text path.0) (picks_text inner ++ (122 ∷ 10 ∷ []))
    ∙ ap (λ x. old ++ x) (sym (attempt_parts path inner))

pub all_fit : (rest : List Pick) (ws : List (Bor (List Pick))) → rest ≡ [] → ws ≡ []
    → FitLeft rest ws
all_fit rest ws e f = rw (e, f) (FitPicks.fit_none, tt)

-- what falls
pub step_falls : (path : Path) (loc : Loc) (more : List Pick) (ws : List (Bor (List Pick)))
    → left_work more ws < left_work (Step path loc ∷ more) ws
step_falls path loc more ws = omega (arith, nodes-Step path loc)

pub head_falls : (path : Path) (inner : List Pick) (more : Bor (List Pick))
    (ws : List (Bor (List Pick)))
    → left_work inner (ws ++ more ∷ []) < left_work (Attempt path inner ∷ more.now) ws
head_falls path inner more ws =
    omega (arith, nodes-Attempt path inner, wait_nodes_last ws more, length-append ws (more ∷ []))

pub end_falls : (more : Bor (List Pick)) (ws : List (Bor (List Pick)))
    → left_work more.now ws < left_work [] (ws ++ more ∷ [])
end_falls more ws = omega (arith, wait_nodes_last ws more, length-append ws (more ∷ []))

pub none_of : (ps : List Pick) → length ps ≡ 0 → ps ≡ []
none_of [] e = refl
none_of (p ∷ ps) e = absurd (suc-ne-zero (length ps) e)
