use Rattle.std.proofs.Common.{ap}
use Rattle.fort_core.specs.declared.primitive.Primitive.{Primitive}
use Rattle.fort_machine.specs.Primitives.{answer_of}
use Rattle.fort_prim.proofs.table.operation.Goals as goal

pub returns-in-AddSmall : goal.returns-in-AddSmall
returns-in-AddSmall c p vs = ap (λ (f : Primitive). answer_of p f vs) c.in-AddSmall.is

pub returns-in-AddLarge : goal.returns-in-AddLarge
returns-in-AddLarge c p vs = ap (λ (f : Primitive). answer_of p f vs) c.in-AddLarge.is

pub returns-in-SubtractSmall : goal.returns-in-SubtractSmall
returns-in-SubtractSmall c p vs = ap (λ (f : Primitive). answer_of p f vs) c.in-SubtractSmall.is

pub returns-in-SubtractLarge : goal.returns-in-SubtractLarge
returns-in-SubtractLarge c p vs = ap (λ (f : Primitive). answer_of p f vs) c.in-SubtractLarge.is

pub returns-in-TimesSmall : goal.returns-in-TimesSmall
returns-in-TimesSmall c p vs = ap (λ (f : Primitive). answer_of p f vs) c.in-TimesSmall.is

pub returns-in-TimesLarge : goal.returns-in-TimesLarge
returns-in-TimesLarge c p vs = ap (λ (f : Primitive). answer_of p f vs) c.in-TimesLarge.is

pub returns-in-DotSmall : goal.returns-in-DotSmall
returns-in-DotSmall c p vs = ap (λ (f : Primitive). answer_of p f vs) c.in-DotSmall.is

pub returns-in-DotLarge : goal.returns-in-DotLarge
returns-in-DotLarge c p vs = ap (λ (f : Primitive). answer_of p f vs) c.in-DotLarge.is

pub returns-in-JuxtaposeSmall : goal.returns-in-JuxtaposeSmall
returns-in-JuxtaposeSmall c p vs = ap (λ (f : Primitive). answer_of p f vs) c.in-JuxtaposeSmall.is

pub returns-in-JuxtaposeLarge : goal.returns-in-JuxtaposeLarge
returns-in-JuxtaposeLarge c p vs = ap (λ (f : Primitive). answer_of p f vs) c.in-JuxtaposeLarge.is

pub returns-in-MaxSmall : goal.returns-in-MaxSmall
returns-in-MaxSmall c p vs = ap (λ (f : Primitive). answer_of p f vs) c.in-MaxSmall.is

pub returns-in-MaxLarge : goal.returns-in-MaxLarge
returns-in-MaxLarge c p vs = ap (λ (f : Primitive). answer_of p f vs) c.in-MaxLarge.is

pub returns-in-MinSmall : goal.returns-in-MinSmall
returns-in-MinSmall c p vs = ap (λ (f : Primitive). answer_of p f vs) c.in-MinSmall.is

pub returns-in-MinLarge : goal.returns-in-MinLarge
returns-in-MinLarge c p vs = ap (λ (f : Primitive). answer_of p f vs) c.in-MinLarge.is

pub returns-in-NegateSmall : goal.returns-in-NegateSmall
returns-in-NegateSmall c p vs = ap (λ (f : Primitive). answer_of p f vs) c.in-NegateSmall.is

pub returns-in-NegateLarge : goal.returns-in-NegateLarge
returns-in-NegateLarge c p vs = ap (λ (f : Primitive). answer_of p f vs) c.in-NegateLarge.is

pub returns-in-DivideSmall : goal.returns-in-DivideSmall
returns-in-DivideSmall c p vs = ap (λ (f : Primitive). answer_of p f vs) c.in-DivideSmall.is

pub returns-in-DivideLarge : goal.returns-in-DivideLarge
returns-in-DivideLarge c p vs = ap (λ (f : Primitive). answer_of p f vs) c.in-DivideLarge.is

pub returns-in-RemainderSmall : goal.returns-in-RemainderSmall
returns-in-RemainderSmall c p vs = ap (λ (f : Primitive). answer_of p f vs) c.in-RemainderSmall.is

pub returns-in-RemainderLarge : goal.returns-in-RemainderLarge
returns-in-RemainderLarge c p vs = ap (λ (f : Primitive). answer_of p f vs) c.in-RemainderLarge.is

pub returns-in-ModuloSmall : goal.returns-in-ModuloSmall
returns-in-ModuloSmall c p vs = ap (λ (f : Primitive). answer_of p f vs) c.in-ModuloSmall.is

pub returns-in-ModuloLarge : goal.returns-in-ModuloLarge
returns-in-ModuloLarge c p vs = ap (λ (f : Primitive). answer_of p f vs) c.in-ModuloLarge.is

pub returns-in-GcdSmall : goal.returns-in-GcdSmall
returns-in-GcdSmall c p vs = ap (λ (f : Primitive). answer_of p f vs) c.in-GcdSmall.is

pub returns-in-GcdLarge : goal.returns-in-GcdLarge
returns-in-GcdLarge c p vs = ap (λ (f : Primitive). answer_of p f vs) c.in-GcdLarge.is

pub returns-in-LcmSmall : goal.returns-in-LcmSmall
returns-in-LcmSmall c p vs = ap (λ (f : Primitive). answer_of p f vs) c.in-LcmSmall.is

pub returns-in-LcmLarge : goal.returns-in-LcmLarge
returns-in-LcmLarge c p vs = ap (λ (f : Primitive). answer_of p f vs) c.in-LcmLarge.is

pub returns-in-BitAndSmall : goal.returns-in-BitAndSmall
returns-in-BitAndSmall c p vs = ap (λ (f : Primitive). answer_of p f vs) c.in-BitAndSmall.is

pub returns-in-BitAndLarge : goal.returns-in-BitAndLarge
returns-in-BitAndLarge c p vs = ap (λ (f : Primitive). answer_of p f vs) c.in-BitAndLarge.is

pub returns-in-BitOrSmall : goal.returns-in-BitOrSmall
returns-in-BitOrSmall c p vs = ap (λ (f : Primitive). answer_of p f vs) c.in-BitOrSmall.is

pub returns-in-BitOrLarge : goal.returns-in-BitOrLarge
returns-in-BitOrLarge c p vs = ap (λ (f : Primitive). answer_of p f vs) c.in-BitOrLarge.is

pub returns-in-BitXorSmall : goal.returns-in-BitXorSmall
returns-in-BitXorSmall c p vs = ap (λ (f : Primitive). answer_of p f vs) c.in-BitXorSmall.is

pub returns-in-BitXorLarge : goal.returns-in-BitXorLarge
returns-in-BitXorLarge c p vs = ap (λ (f : Primitive). answer_of p f vs) c.in-BitXorLarge.is

pub returns-in-ShiftLeftSmall : goal.returns-in-ShiftLeftSmall
returns-in-ShiftLeftSmall c p vs = ap (λ (f : Primitive). answer_of p f vs) c.in-ShiftLeftSmall.is

pub returns-in-ShiftLeftLarge : goal.returns-in-ShiftLeftLarge
returns-in-ShiftLeftLarge c p vs = ap (λ (f : Primitive). answer_of p f vs) c.in-ShiftLeftLarge.is

pub returns-in-ShiftRightSmall : goal.returns-in-ShiftRightSmall
returns-in-ShiftRightSmall c p vs = ap (λ (f : Primitive). answer_of p f vs) c.in-ShiftRightSmall.is

pub returns-in-ShiftRightLarge : goal.returns-in-ShiftRightLarge
returns-in-ShiftRightLarge c p vs = ap (λ (f : Primitive). answer_of p f vs) c.in-ShiftRightLarge.is

pub returns-in-PowerSmall : goal.returns-in-PowerSmall
returns-in-PowerSmall c p vs = ap (λ (f : Primitive). answer_of p f vs) c.in-PowerSmall.is

pub returns-in-PowerLarge : goal.returns-in-PowerLarge
returns-in-PowerLarge c p vs = ap (λ (f : Primitive). answer_of p f vs) c.in-PowerLarge.is

pub returns-in-EqualSmall : goal.returns-in-EqualSmall
returns-in-EqualSmall c p vs = ap (λ (f : Primitive). answer_of p f vs) c.in-EqualSmall.is

pub returns-in-EqualLarge : goal.returns-in-EqualLarge
returns-in-EqualLarge c p vs = ap (λ (f : Primitive). answer_of p f vs) c.in-EqualLarge.is

pub returns-in-UnequalSmall : goal.returns-in-UnequalSmall
returns-in-UnequalSmall c p vs = ap (λ (f : Primitive). answer_of p f vs) c.in-UnequalSmall.is

pub returns-in-UnequalLarge : goal.returns-in-UnequalLarge
returns-in-UnequalLarge c p vs = ap (λ (f : Primitive). answer_of p f vs) c.in-UnequalLarge.is

pub returns-in-LessSmall : goal.returns-in-LessSmall
returns-in-LessSmall c p vs = ap (λ (f : Primitive). answer_of p f vs) c.in-LessSmall.is

pub returns-in-LessLarge : goal.returns-in-LessLarge
returns-in-LessLarge c p vs = ap (λ (f : Primitive). answer_of p f vs) c.in-LessLarge.is

pub returns-in-AtMostSmall : goal.returns-in-AtMostSmall
returns-in-AtMostSmall c p vs = ap (λ (f : Primitive). answer_of p f vs) c.in-AtMostSmall.is

pub returns-in-AtMostLarge : goal.returns-in-AtMostLarge
returns-in-AtMostLarge c p vs = ap (λ (f : Primitive). answer_of p f vs) c.in-AtMostLarge.is

pub returns-in-GreaterSmall : goal.returns-in-GreaterSmall
returns-in-GreaterSmall c p vs = ap (λ (f : Primitive). answer_of p f vs) c.in-GreaterSmall.is

pub returns-in-GreaterLarge : goal.returns-in-GreaterLarge
returns-in-GreaterLarge c p vs = ap (λ (f : Primitive). answer_of p f vs) c.in-GreaterLarge.is

pub returns-in-AtLeastSmall : goal.returns-in-AtLeastSmall
returns-in-AtLeastSmall c p vs = ap (λ (f : Primitive). answer_of p f vs) c.in-AtLeastSmall.is

pub returns-in-AtLeastLarge : goal.returns-in-AtLeastLarge
returns-in-AtLeastLarge c p vs = ap (λ (f : Primitive). answer_of p f vs) c.in-AtLeastLarge.is

pub returns-in-EqualTexts : goal.returns-in-EqualTexts
returns-in-EqualTexts c p vs = ap (λ (f : Primitive). answer_of p f vs) c.in-EqualTexts.is

pub returns-in-UnequalTexts : goal.returns-in-UnequalTexts
returns-in-UnequalTexts c p vs = ap (λ (f : Primitive). answer_of p f vs) c.in-UnequalTexts.is

pub returns-in-EqualTruths : goal.returns-in-EqualTruths
returns-in-EqualTruths c p vs = ap (λ (f : Primitive). answer_of p f vs) c.in-EqualTruths.is

pub returns-in-UnequalTruths : goal.returns-in-UnequalTruths
returns-in-UnequalTruths c p vs = ap (λ (f : Primitive). answer_of p f vs) c.in-UnequalTruths.is

pub returns-in-Same : goal.returns-in-Same
returns-in-Same c p vs = ap (λ (f : Primitive). answer_of p f vs) c.in-Same.is

pub returns-in-And : goal.returns-in-And
returns-in-And c p vs = ap (λ (f : Primitive). answer_of p f vs) c.in-And.is

pub returns-in-Or : goal.returns-in-Or
returns-in-Or c p vs = ap (λ (f : Primitive). answer_of p f vs) c.in-Or.is

pub returns-in-Not : goal.returns-in-Not
returns-in-Not c p vs = ap (λ (f : Primitive). answer_of p f vs) c.in-Not.is

pub returns-in-RangeTo : goal.returns-in-RangeTo
returns-in-RangeTo c p vs = ap (λ (f : Primitive). answer_of p f vs) c.in-RangeTo.is

pub returns-in-RangeCount : goal.returns-in-RangeCount
returns-in-RangeCount c p vs = ap (λ (f : Primitive). answer_of p f vs) c.in-RangeCount.is

pub returns-in-JoinTextAny : goal.returns-in-JoinTextAny
returns-in-JoinTextAny c p vs = ap (λ (f : Primitive). answer_of p f vs) c.in-JoinTextAny.is

pub returns-in-JoinAnyText : goal.returns-in-JoinAnyText
returns-in-JoinAnyText c p vs = ap (λ (f : Primitive). answer_of p f vs) c.in-JoinAnyText.is

pub returns-in-JoinTexts : goal.returns-in-JoinTexts
returns-in-JoinTexts c p vs = ap (λ (f : Primitive). answer_of p f vs) c.in-JoinTexts.is

pub returns-in-Println : goal.returns-in-Println
returns-in-Println c p vs = ap (λ (f : Primitive). answer_of p f vs) c.in-Println.is

pub returns-in-Print : goal.returns-in-Print
returns-in-Print c p vs = ap (λ (f : Primitive). answer_of p f vs) c.in-Print.is

pub returns-in-Abort : goal.returns-in-Abort
returns-in-Abort c p vs = ap (λ (f : Primitive). answer_of p f vs) c.in-Abort.is

pub returns-in-Widen : goal.returns-in-Widen
returns-in-Widen c p vs = ap (λ (f : Primitive). answer_of p f vs) c.in-Widen.is

pub returns-in-Narrow : goal.returns-in-Narrow
returns-in-Narrow c p vs = ap (λ (f : Primitive). answer_of p f vs) c.in-Narrow.is

pub returns-in-Length : goal.returns-in-Length
returns-in-Length c p vs = ap (λ (f : Primitive). answer_of p f vs) c.in-Length.is
