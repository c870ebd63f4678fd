-- Chapter "The machine with threads": the built-in declarations of a worked program, set by set,
-- and the sets of all its declarations.
use Rattle.std.specs.Prelude.{ℕ, suc, zero, ◌+◌, List, [], ◌∷◌}
use Rattle.fort_base.specs.declared.ids.DeclId.{DeclId}
use Rattle.fort_base.specs.declared.ty.Ty.{Ty}
use Rattle.fort_base.specs.declared.ty.Ty.TheVariants.{Any}
use Rattle.fort_core.specs.declared.primitive.Primitive.{Primitive}
use Rattle.fort_core.specs.declared.primitive.Primitive.TheVariants.{AddSmall, AddLarge, SubtractSmall, SubtractLarge, TimesSmall, TimesLarge, DotSmall, DotLarge, JuxtaposeSmall, JuxtaposeLarge, JoinTextAny, JoinAnyText, JoinTexts, MaxSmall, MaxLarge, MinSmall, MinLarge, DivideSmall, DivideLarge, RemainderSmall, RemainderLarge, ModuloSmall, ModuloLarge, GcdSmall, GcdLarge, LcmSmall, LcmLarge, BitAndSmall, BitAndLarge, BitOrSmall, BitOrLarge, BitXorSmall, BitXorLarge, ShiftLeftSmall, ShiftLeftLarge, ShiftRightSmall, ShiftRightLarge, PowerSmall, PowerLarge, NegateSmall, NegateLarge, EqualSmall, EqualLarge, EqualTexts, EqualTruths, UnequalSmall, UnequalLarge, UnequalTexts, UnequalTruths, LessSmall, LessLarge, AtMostSmall, AtMostLarge, GreaterSmall, GreaterLarge, AtLeastSmall, AtLeastLarge, Same, And, Or, Not, RangeTo, RangeCount, Println, Print, Abort, Widen, Narrow, Length}
use Rattle.fort_core.specs.declared.program.CoreBody.TheVariants as body
use Rattle.fort_core.specs.declared.program.CoreDecl.{CoreDecl}
use Rattle.fort_core.specs.declared.program.CoreSet.{CoreSet}
use Rattle.fort_machine.specs.Worked.{decl}
use Rattle.fort_threads_law_worked.specs.Types.{unit_type, small_type, large_type, text_type, truth_type, range_type}

-- A built-in declaration, by its parameters, its result, and what it is to the machine.
abbrev pub built_in : List Ty → Ty → Primitive → CoreDecl
built_in parameters result f =
    record { parameters = parameters; result = result; body = body.Primitive f }

-- Those of two numbers, or of one.
abbrev pub two_small : Ty → Primitive → CoreDecl
two_small = built_in (small_type ∷ small_type ∷ [])

abbrev pub two_large : Ty → Primitive → CoreDecl
two_large = built_in (large_type ∷ large_type ∷ [])

abbrev pub two_texts : Ty → Primitive → CoreDecl
two_texts = built_in (text_type ∷ text_type ∷ [])

abbrev pub two_truths : Ty → Primitive → CoreDecl
two_truths = built_in (truth_type ∷ truth_type ∷ [])

abbrev pub built_ins : List CoreDecl
built_ins = two_small small_type AddSmall
    ∷ two_large large_type AddLarge
    ∷ two_small small_type SubtractSmall
    ∷ two_large large_type SubtractLarge
    ∷ two_small small_type TimesSmall
    ∷ two_large large_type TimesLarge
    ∷ two_small small_type DotSmall
    ∷ two_large large_type DotLarge
    ∷ two_small small_type JuxtaposeSmall
    ∷ two_large large_type JuxtaposeLarge
    ∷ built_in (text_type ∷ Any ∷ []) text_type JoinTextAny
    ∷ built_in (Any ∷ text_type ∷ []) text_type JoinAnyText
    ∷ two_texts text_type JoinTexts
    ∷ two_small small_type MaxSmall
    ∷ two_large large_type MaxLarge
    ∷ two_small small_type MinSmall
    ∷ two_large large_type MinLarge
    ∷ two_small small_type DivideSmall
    ∷ two_large large_type DivideLarge
    ∷ two_small small_type RemainderSmall
    ∷ two_large large_type RemainderLarge
    ∷ two_small small_type ModuloSmall
    ∷ two_large large_type ModuloLarge
    ∷ two_small small_type GcdSmall
    ∷ two_large large_type GcdLarge
    ∷ two_small small_type LcmSmall
    ∷ two_large large_type LcmLarge
    ∷ two_small small_type BitAndSmall
    ∷ two_large large_type BitAndLarge
    ∷ two_small small_type BitOrSmall
    ∷ two_large large_type BitOrLarge
    ∷ two_small small_type BitXorSmall
    ∷ two_large large_type BitXorLarge
    ∷ two_small small_type ShiftLeftSmall
    ∷ two_large large_type ShiftLeftLarge
    ∷ two_small small_type ShiftRightSmall
    ∷ two_large large_type ShiftRightLarge
    ∷ two_small small_type PowerSmall
    ∷ two_large large_type PowerLarge
    ∷ built_in (small_type ∷ []) small_type NegateSmall
    ∷ built_in (large_type ∷ []) large_type NegateLarge
    ∷ two_small truth_type EqualSmall
    ∷ two_large truth_type EqualLarge
    ∷ two_texts truth_type EqualTexts
    ∷ two_truths truth_type EqualTruths
    ∷ two_small truth_type UnequalSmall
    ∷ two_large truth_type UnequalLarge
    ∷ two_texts truth_type UnequalTexts
    ∷ two_truths truth_type UnequalTruths
    ∷ two_small truth_type LessSmall
    ∷ two_large truth_type LessLarge
    ∷ two_small truth_type AtMostSmall
    ∷ two_large truth_type AtMostLarge
    ∷ two_small truth_type GreaterSmall
    ∷ two_large truth_type GreaterLarge
    ∷ two_small truth_type AtLeastSmall
    ∷ two_large truth_type AtLeastLarge
    ∷ built_in (Any ∷ Any ∷ []) truth_type Same
    ∷ two_truths truth_type And
    ∷ two_truths truth_type Or
    ∷ built_in (truth_type ∷ []) truth_type Not
    ∷ two_small range_type RangeTo
    ∷ two_small range_type RangeCount
    ∷ built_in (Any ∷ []) unit_type Println
    ∷ built_in (Any ∷ []) unit_type Print
    ∷ built_in [] unit_type Abort
    ∷ built_in (small_type ∷ []) large_type Widen
    ∷ built_in (large_type ∷ []) small_type Narrow
    ∷ built_in (text_type ∷ []) small_type Length ∷ []

-- How many declarations the sets have: those of the built-in ones; of `wait`, `ready` and `val`,
-- each with the abstract method of `Thread`; of `Thread'`, `spawn'`, `take'`, `go'`, `serve'`,
-- `main'`, `run` and `run'`.
abbrev pub sizes : List ℕ
sizes = 2 ∷ 2 ∷ 2 ∷ 2 ∷ 5 ∷ 2 ∷ 2 ∷ 2 ∷ 2 ∷ 2 ∷ 2 ∷ 2 ∷ 2 ∷ 2 ∷ 2 ∷ 2 ∷ 2 ∷ 2 ∷ 2 ∷ 4 ∷ 4 ∷ 2
    ∷ 2 ∷ 2 ∷ 2 ∷ 1 ∷ 1 ∷ 1 ∷ 1 ∷ 1 ∷ 1 ∷ 1 ∷ 1 ∷ 1 ∷ 1 ∷ 1 ∷ 1 ∷ 2 ∷ 2 ∷ 2 ∷ 1 ∷ 1 ∷ 1 ∷ 1
    ∷ 1 ∷ 1 ∷ 1 ∷ 1 ∷ []

-- They are numbered set by set.
abbrev pub numbers : ℕ → ℕ → List DeclId
numbers n zero = []
numbers n (suc k) = decl n ∷ numbers (n + 1) k

abbrev pub sets_from : ℕ → List ℕ → List CoreSet
sets_from n [] = []
sets_from n (k ∷ ks) = record { decls = numbers n k } ∷ sets_from (n + k) ks

abbrev pub sets : List CoreSet
sets = sets_from 0 sizes
