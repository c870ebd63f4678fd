-- The chapter "Tokens": a text taken apart from its front, one part after another. The code keeps
-- an index.
use Rattle.std.specs.Prelude.{◌≡◌, ℕ, List, [], ◌∷◌}

-- The text is these parts and then the rest. Step a text after: the part a stands at the front, and
-- after follows it.
abbrev pub Chain : {A : Type 0} → (A → List ℕ → List ℕ → Type 0) → List A → List ℕ → List ℕ → Type 0
Chain Step [] text rest = text ≡ rest
Chain Step (a ∷ parts) text rest = (after : List ℕ) × Step a text after
    × Chain Step parts after rest
