-- The words in which the laws of this crate say that one of two things is so.

-- It isn't so that neither of two claims holds. Where each claim holds or doesn't, this is that one
-- of the two holds; the toolchain lets no crate take that for granted of every claim, and the law
-- doesn't find which of the two it is.
abbrev pub NotNeither : Type 0 → Type 0 → Type 0
NotNeither P Q = (P → ⊥) → (Q → ⊥) → ⊥
