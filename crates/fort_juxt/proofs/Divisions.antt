-- A list has one division into chunks.
use Rattle.std.proofs.Common.{◌≡◌, ◌≢◌, Bool, true, false, cond, List, [], ◌∷◌, ◌++◌, refl, sym, ap, ◌∙◌, subst, append_assoc}
use Rattle.fort_juxt.specs.declared.elements.Element.{Element}
use Rattle.fort_juxt.specs.Loose.{Chunk, elements, all_elements, AreFunctions, IsChunk, AreChunks, AreApart, IsDivision}
use Rattle.fort_juxt.specs.Walks.{Stops, alone, with_other, with_element, chunks_of}

-- the elements of one kind that a list begins with
span_once : (p : Bool) (xs ys u v : List Element) → AreFunctions p xs → AreFunctions p ys
    → Stops p u → Stops p v → xs ++ u ≡ ys ++ v → (xs ≡ ys) × (u ≡ v)
span_once p [] [] u v a b s t e = (refl, e)
span_once p [] (y ∷ ys) [] v a b s t e = absurd cc
span_once p [] (y ∷ ys) (x ∷ u) v a b s t e =
    let i : x ≡ y = cc in absurd (s (ap (λ (z : Element). z.function) i ∙ b.0))
span_once p (x ∷ xs) [] u [] a b s t e = absurd cc
span_once p (x ∷ xs) [] u (y ∷ v) a b s t e =
    let i : y ≡ x = cc in absurd (t (ap (λ (z : Element). z.function) i ∙ a.0))
span_once p (x ∷ xs) (y ∷ ys) u v a b s t e =
    let f : xs ++ u ≡ ys ++ v = cc in let r = span_once p xs ys u v a.1 b.1 s t f
    in let i : x ≡ y = cc in let j = r.0 in (cc, r.1)

no_elements : (xs ys : List Element) → xs ++ ys ≡ [] → xs ≡ []
no_elements [] ys e = refl
no_elements (x ∷ xs) ys e = absurd cc

apart_rest : (c : Chunk) (cs : List Chunk) → AreApart (c ∷ cs) → AreApart cs
apart_rest c [] a = tt
apart_rest c (d ∷ cs) a = a.2

-- what stands behind a chunk's functions begins with no function
stops_functions : (others : List Element) (cs : List Chunk) → AreFunctions false others
    → (c : Chunk) → c.others ≡ others → AreApart (c ∷ cs) → Stops true (others ++ all_elements cs)
stops_functions [] [] f c e a = tt
stops_functions [] (d ∷ cs) f c e a = absurd (a.0 e)
stops_functions (o ∷ others) cs f c e a = λ t. let i : false ≡ true = sym f.0 ∙ t in absurd cc

begins : (functions more : List Element) → AreFunctions true functions → functions ≢ []
    → Stops false (functions ++ more)
begins [] more f n = absurd (n refl)
begins (x ∷ functions) more f n = λ t. let i : true ≡ false = sym f.0 ∙ t in absurd cc

-- what stands behind a chunk begins with a function
stops_others : (c : Chunk) (cs : List Chunk) → AreChunks cs → AreApart (c ∷ cs)
    → Stops false (all_elements cs)
stops_others c [] h a = tt
stops_others c (d ∷ cs) h a =
    rw append_assoc (begins d.functions (d.others ++ all_elements cs) h.0.functions a.1)

same_chunk : (c d : Chunk) → c.functions ≡ d.functions → c.others ≡ d.others → c ≡ d
same_chunk c d e f =
    ap (λ (xs : List Element). record { functions = xs; others = c.others }) e ∙ ap (λ
    (xs : List Element). record { functions = d.functions; others = xs }) f

pub division_once : (cs ds : List Chunk) → AreChunks cs → AreChunks ds → AreApart cs → AreApart ds
    → all_elements cs ≡ all_elements ds → cs ≡ ds
division_once [] [] h k a b e = refl
division_once [] (d ∷ ds) h k a b e =
    absurd (k.0.filled (no_elements (elements d) (all_elements ds) (sym e)))
division_once (c ∷ cs) [] h k a b e =
    absurd (h.0.filled (no_elements (elements c) (all_elements cs) e))
division_once (c ∷ cs) (d ∷ ds) h k a b e =
    let f : c.functions ++ (c.others ++ all_elements cs)
    ≡ d.functions ++ (d.others ++ all_elements ds) =
    sym (append_assoc c.functions c.others (all_elements cs))
    ∙ (e ∙ append_assoc d.functions d.others (all_elements ds)) in
    let r = span_once true c.functions d.functions (c.others ++ all_elements cs)
    (d.others ++ all_elements ds) h.0.functions k.0.functions
    (stops_functions c.others cs h.0.others c refl a)
    (stops_functions d.others ds k.0.others d refl b) f in
    let s = span_once false c.others d.others (all_elements cs) (all_elements ds) h.0.others
    k.0.others (stops_others c cs h.1 a) (stops_others d ds k.1 b) r.1 in
    let t = division_once cs ds h.1 k.1 (apart_rest c cs a) (apart_rest d ds b) s.1 in
    ap (λ x. x ∷ cs) (same_chunk c d r.0 s.0) ∙ ap (λ xs. d ∷ xs) t

pub one_division : (es : List Element) (cs ds : List Chunk) → IsDivision es cs → IsDivision es ds
    → cs ≡ ds
one_division es cs ds h k =
    division_once cs ds h.each k.each h.apart k.apart (h.whole ∙ sym k.whole)

-- ---- each list has one

more_function : (e : Element) (es : List Element) (c : Chunk) (cs : List Chunk) → e.function ≡ true
    → IsDivision es (c ∷ cs)
    → IsDivision (e ∷ es) (record { functions = e ∷ c.functions; others = c.others } ∷ cs)
more_function e es c cs t h = record {
  whole = ap (λ xs. e ∷ xs) h.whole;
  each = (
    record {
      filled = λ q. absurd cc;
      functions = (t, h.each.0.functions);
      others = h.each.0.others;
    },
    h.each.1,
  );
  apart = keeps cs h.apart;
}
  where
    keeps : (cs : List Chunk) → AreApart (c ∷ cs)
        → AreApart (record { functions = e ∷ c.functions; others = c.others } ∷ cs)
    keeps [] a = tt
    keeps (d ∷ cs) a = (a.0, a.1, a.2)

more_other : (e : Element) (es fs os : List Element) (cs : List Chunk) → e.function ≡ false
    → IsDivision es (record { functions = fs; others = os } ∷ cs)
    → IsDivision (e ∷ es) (with_other e fs os cs)
more_other e es [] os cs t h = record {
  whole = ap (λ xs. e ∷ xs) h.whole;
  each = (
    record { filled = λ q. absurd cc; functions = tt; others = (t, h.each.0.others) },
    h.each.1,
  );
  apart = keeps cs h.apart;
}
  where
    keeps : (cs : List Chunk) → AreApart (record { functions = []; others = os } ∷ cs)
        → AreApart (record { functions = []; others = e ∷ os } ∷ cs)
    keeps [] a = tt
    keeps (d ∷ cs) a = (λ q. absurd cc, a.1, a.2)
more_other e es (f ∷ fs) os cs t h = record {
  whole = ap (λ xs. e ∷ xs) h.whole;
  each = (record { filled = λ q. absurd cc; functions = tt; others = (t, tt) }, h.each);
  apart = (λ q. absurd cc, λ q. absurd cc, h.apart);
}

alone_by : (e : Element) (b : Bool) → e.function ≡ b
    → IsDivision (e ∷ [])
    (cond b (record { functions = e ∷ []; others = [] })
    (record { functions = []; others = e ∷ [] }) ∷ [])
alone_by e true t =
    record {
      whole = refl;
      each = (record { filled = λ q. absurd cc; functions = (t, tt); others = tt }, tt);
      apart = tt;
    }
alone_by e false t =
    record {
      whole = refl;
      each = (record { filled = λ q. absurd cc; functions = tt; others = (t, tt) }, tt);
      apart = tt;
    }

more_by : (e : Element) (es : List Element) (c : Chunk) (cs : List Chunk) → IsDivision es (c ∷ cs)
    → (b : Bool) → e.function ≡ b
    → IsDivision (e ∷ es)
    (cond b (record { functions = e ∷ c.functions; others = c.others } ∷ cs)
    (with_other e c.functions c.others cs))
more_by e es c cs h true t = more_function e es c cs t h
more_by e es c cs h false t = more_other e es c.functions c.others cs t h

more_element : (e : Element) (es : List Element) (cs : List Chunk) → IsDivision es cs
    → IsDivision (e ∷ es) (with_element e cs)
more_element e es [] h =
    subst (λ xs. IsDivision (e ∷ xs) (alone e ∷ [])) h.whole (alone_by e e.function refl)
more_element e es (c ∷ cs) h = more_by e es c cs h e.function refl

pub divided : (es : List Element) → IsDivision es (chunks_of es)
divided [] = record { whole = refl; each = tt; apart = tt }
divided (e ∷ es) = more_element e es (chunks_of es) (divided es)

-- ---- the first chunk

starts : (fs os more : List Element) → AreFunctions false os → fs ++ os ≢ []
    → Stops false ((fs ++ os) ++ more) → fs ≢ []
starts [] [] more f n s q = n refl
starts [] (o ∷ os) more f n s q = s f.0
starts (x ∷ fs) os more f n s q = absurd cc

apart_first : (c : Chunk) (rest : List Element) (cs : List Chunk) → IsDivision rest cs
    → (c.others ≡ [] → rest ≡ []) → Stops false rest → AreApart (c ∷ cs)
apart_first c rest [] h n s = tt
apart_first c rest (d ∷ cs) h n s = (
  λ q. h.each.0.filled (no_elements (elements d) (all_elements cs) (h.whole ∙ n q)),
  starts d.functions d.others (all_elements cs) h.each.0.others h.each.0.filled
      (subst (Stops false) (sym h.whole) s),
  h.apart,
)

pub first_chunk : (es : List Element) (c : Chunk) (rest : List Element) → IsChunk c
    → (c.others ≡ [] → rest ≡ []) → Stops false rest → elements c ++ rest ≡ es
    → chunks_of es ≡ c ∷ chunks_of rest
first_chunk es c rest h n s e =
    one_division es (chunks_of es) (c ∷ chunks_of rest) (divided es) (record {
      whole = ap (λ xs. elements c ++ xs) (divided rest).whole ∙ e;
      each = (h, (divided rest).each);
      apart = apart_first c rest (chunks_of rest) (divided rest) n s;
    })
