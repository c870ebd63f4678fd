-- Chapter "Types of closed terms": what each built-in declaration takes and gives. The check of a
-- component has it from the table of built-in declarations.
use Rattle.std.specs.Prelude.{List, [], ◌∷◌}
use Rattle.fort_base.specs.declared.ty.Ty.{Ty}
use Rattle.fort_base.specs.declared.ty.Ty.TheVariants.{Any, Named}
use Rattle.fort_core.specs.declared.primitive.Primitive.{Primitive}
use Rattle.fort_core.specs.declared.primitive.Primitive.TheVariants as primitive
use Rattle.fort_core.specs.declared.program.Program.{Program}
use Rattle.fort_sound_typed.specs.Typing.{unit_type, small_type, truth_type}

-- The type ZZ64.
abbrev pub large_type : Program → Ty
large_type p = Named p.built_in.large

-- The type String.
abbrev pub text_type : Program → Ty
text_type p = Named p.built_in.text

-- The type Range.
abbrev pub range_type : Program → Ty
range_type p = Named p.built_in.range

-- The types of a built-in declaration's parameters.
abbrev pub parameters_of : Program → Primitive → List Ty
parameters_of p primitive.AddSmall = small_type p ∷ small_type p ∷ []
parameters_of p primitive.AddLarge = large_type p ∷ large_type p ∷ []
parameters_of p primitive.SubtractSmall = small_type p ∷ small_type p ∷ []
parameters_of p primitive.SubtractLarge = large_type p ∷ large_type p ∷ []
parameters_of p primitive.TimesSmall = small_type p ∷ small_type p ∷ []
parameters_of p primitive.TimesLarge = large_type p ∷ large_type p ∷ []
parameters_of p primitive.DotSmall = small_type p ∷ small_type p ∷ []
parameters_of p primitive.DotLarge = large_type p ∷ large_type p ∷ []
parameters_of p primitive.JuxtaposeSmall = small_type p ∷ small_type p ∷ []
parameters_of p primitive.JuxtaposeLarge = large_type p ∷ large_type p ∷ []
parameters_of p primitive.MaxSmall = small_type p ∷ small_type p ∷ []
parameters_of p primitive.MaxLarge = large_type p ∷ large_type p ∷ []
parameters_of p primitive.MinSmall = small_type p ∷ small_type p ∷ []
parameters_of p primitive.MinLarge = large_type p ∷ large_type p ∷ []
parameters_of p primitive.NegateSmall = small_type p ∷ []
parameters_of p primitive.NegateLarge = large_type p ∷ []
parameters_of p primitive.DivideSmall = small_type p ∷ small_type p ∷ []
parameters_of p primitive.DivideLarge = large_type p ∷ large_type p ∷ []
parameters_of p primitive.RemainderSmall = small_type p ∷ small_type p ∷ []
parameters_of p primitive.RemainderLarge = large_type p ∷ large_type p ∷ []
parameters_of p primitive.ModuloSmall = small_type p ∷ small_type p ∷ []
parameters_of p primitive.ModuloLarge = large_type p ∷ large_type p ∷ []
parameters_of p primitive.GcdSmall = small_type p ∷ small_type p ∷ []
parameters_of p primitive.GcdLarge = large_type p ∷ large_type p ∷ []
parameters_of p primitive.LcmSmall = small_type p ∷ small_type p ∷ []
parameters_of p primitive.LcmLarge = large_type p ∷ large_type p ∷ []
parameters_of p primitive.BitAndSmall = small_type p ∷ small_type p ∷ []
parameters_of p primitive.BitAndLarge = large_type p ∷ large_type p ∷ []
parameters_of p primitive.BitOrSmall = small_type p ∷ small_type p ∷ []
parameters_of p primitive.BitOrLarge = large_type p ∷ large_type p ∷ []
parameters_of p primitive.BitXorSmall = small_type p ∷ small_type p ∷ []
parameters_of p primitive.BitXorLarge = large_type p ∷ large_type p ∷ []
parameters_of p primitive.ShiftLeftSmall = small_type p ∷ small_type p ∷ []
parameters_of p primitive.ShiftLeftLarge = large_type p ∷ large_type p ∷ []
parameters_of p primitive.ShiftRightSmall = small_type p ∷ small_type p ∷ []
parameters_of p primitive.ShiftRightLarge = large_type p ∷ large_type p ∷ []
parameters_of p primitive.PowerSmall = small_type p ∷ small_type p ∷ []
parameters_of p primitive.PowerLarge = large_type p ∷ large_type p ∷ []
parameters_of p primitive.EqualSmall = small_type p ∷ small_type p ∷ []
parameters_of p primitive.EqualLarge = large_type p ∷ large_type p ∷ []
parameters_of p primitive.UnequalSmall = small_type p ∷ small_type p ∷ []
parameters_of p primitive.UnequalLarge = large_type p ∷ large_type p ∷ []
parameters_of p primitive.LessSmall = small_type p ∷ small_type p ∷ []
parameters_of p primitive.LessLarge = large_type p ∷ large_type p ∷ []
parameters_of p primitive.AtMostSmall = small_type p ∷ small_type p ∷ []
parameters_of p primitive.AtMostLarge = large_type p ∷ large_type p ∷ []
parameters_of p primitive.GreaterSmall = small_type p ∷ small_type p ∷ []
parameters_of p primitive.GreaterLarge = large_type p ∷ large_type p ∷ []
parameters_of p primitive.AtLeastSmall = small_type p ∷ small_type p ∷ []
parameters_of p primitive.AtLeastLarge = large_type p ∷ large_type p ∷ []
parameters_of p primitive.EqualTexts = text_type p ∷ text_type p ∷ []
parameters_of p primitive.UnequalTexts = text_type p ∷ text_type p ∷ []
parameters_of p primitive.EqualTruths = truth_type p ∷ truth_type p ∷ []
parameters_of p primitive.UnequalTruths = truth_type p ∷ truth_type p ∷ []
parameters_of p primitive.Same = Any ∷ Any ∷ []
parameters_of p primitive.And = truth_type p ∷ truth_type p ∷ []
parameters_of p primitive.Or = truth_type p ∷ truth_type p ∷ []
parameters_of p primitive.Not = truth_type p ∷ []
parameters_of p primitive.RangeTo = small_type p ∷ small_type p ∷ []
parameters_of p primitive.RangeCount = small_type p ∷ small_type p ∷ []
parameters_of p primitive.JoinTextAny = text_type p ∷ Any ∷ []
parameters_of p primitive.JoinAnyText = Any ∷ text_type p ∷ []
parameters_of p primitive.JoinTexts = text_type p ∷ text_type p ∷ []
parameters_of p primitive.Println = Any ∷ []
parameters_of p primitive.Print = Any ∷ []
parameters_of p primitive.Abort = []
parameters_of p primitive.Widen = small_type p ∷ []
parameters_of p primitive.Narrow = large_type p ∷ []
parameters_of p primitive.Length = text_type p ∷ []

-- The type of its result.
abbrev pub result_of : Program → Primitive → Ty
result_of p primitive.AddSmall = small_type p
result_of p primitive.AddLarge = large_type p
result_of p primitive.SubtractSmall = small_type p
result_of p primitive.SubtractLarge = large_type p
result_of p primitive.TimesSmall = small_type p
result_of p primitive.TimesLarge = large_type p
result_of p primitive.DotSmall = small_type p
result_of p primitive.DotLarge = large_type p
result_of p primitive.JuxtaposeSmall = small_type p
result_of p primitive.JuxtaposeLarge = large_type p
result_of p primitive.MaxSmall = small_type p
result_of p primitive.MaxLarge = large_type p
result_of p primitive.MinSmall = small_type p
result_of p primitive.MinLarge = large_type p
result_of p primitive.NegateSmall = small_type p
result_of p primitive.NegateLarge = large_type p
result_of p primitive.DivideSmall = small_type p
result_of p primitive.DivideLarge = large_type p
result_of p primitive.RemainderSmall = small_type p
result_of p primitive.RemainderLarge = large_type p
result_of p primitive.ModuloSmall = small_type p
result_of p primitive.ModuloLarge = large_type p
result_of p primitive.GcdSmall = small_type p
result_of p primitive.GcdLarge = large_type p
result_of p primitive.LcmSmall = small_type p
result_of p primitive.LcmLarge = large_type p
result_of p primitive.BitAndSmall = small_type p
result_of p primitive.BitAndLarge = large_type p
result_of p primitive.BitOrSmall = small_type p
result_of p primitive.BitOrLarge = large_type p
result_of p primitive.BitXorSmall = small_type p
result_of p primitive.BitXorLarge = large_type p
result_of p primitive.ShiftLeftSmall = small_type p
result_of p primitive.ShiftLeftLarge = large_type p
result_of p primitive.ShiftRightSmall = small_type p
result_of p primitive.ShiftRightLarge = large_type p
result_of p primitive.PowerSmall = small_type p
result_of p primitive.PowerLarge = large_type p
result_of p primitive.EqualSmall = truth_type p
result_of p primitive.EqualLarge = truth_type p
result_of p primitive.UnequalSmall = truth_type p
result_of p primitive.UnequalLarge = truth_type p
result_of p primitive.LessSmall = truth_type p
result_of p primitive.LessLarge = truth_type p
result_of p primitive.AtMostSmall = truth_type p
result_of p primitive.AtMostLarge = truth_type p
result_of p primitive.GreaterSmall = truth_type p
result_of p primitive.GreaterLarge = truth_type p
result_of p primitive.AtLeastSmall = truth_type p
result_of p primitive.AtLeastLarge = truth_type p
result_of p primitive.EqualTexts = truth_type p
result_of p primitive.UnequalTexts = truth_type p
result_of p primitive.EqualTruths = truth_type p
result_of p primitive.UnequalTruths = truth_type p
result_of p primitive.Same = truth_type p
result_of p primitive.And = truth_type p
result_of p primitive.Or = truth_type p
result_of p primitive.Not = truth_type p
result_of p primitive.RangeTo = range_type p
result_of p primitive.RangeCount = range_type p
result_of p primitive.JoinTextAny = text_type p
result_of p primitive.JoinAnyText = text_type p
result_of p primitive.JoinTexts = text_type p
result_of p primitive.Println = unit_type
result_of p primitive.Print = unit_type
result_of p primitive.Abort = unit_type
result_of p primitive.Widen = large_type p
result_of p primitive.Narrow = small_type p
result_of p primitive.Length = small_type p
