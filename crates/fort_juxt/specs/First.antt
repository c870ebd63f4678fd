-- The chapter "Juxtaposition": the first place of a list where a test is met by what stands from
-- there on.
use Rattle.std.specs.Prelude.{◌≡◌, ◌≤◌, Bool, true, false, List, ◌++◌, length}
use Rattle.fort_juxt.specs.declared.elements.Element.{Element}

-- A list is divided at the first place where a test is met.
pub record IsFirst (test : List Element → Bool) (es before rest : List Element) : Type 0 where
  pub divided : es ≡ before ++ rest
  pub met : test rest ≡ true
  pub least : (b r : List Element) → es ≡ b ++ r → test r ≡ true → length before ≤ length b

-- A test is met at no place of a list.
pub record IsNowhere (test : List Element → Bool) (es : List Element) : Type 0 where
  pub unmet : (b r : List Element) → es ≡ b ++ r → test r ≡ false
