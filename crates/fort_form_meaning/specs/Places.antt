-- The chapter "Typing": where a form begins.
use Rattle.fort_base.specs.declared.refusal.Place.{Place}
use Rattle.fort_form.specs.declared.form.Form.{Form, out-Form}
use Rattle.fort_form.specs.declared.form.Form.TheOpen.{Form-F}

abbrev pub place_at : {A B C D E : Type 0} → Form-F A B C D E → Place
place_at (Form-F.Number p a) = p
place_at (Form-F.Text p a) = p
place_at (Form-F.Truth p a) = p
place_at (Form-F.Receiver p) = p
place_at (Form-F.Name p a) = p
place_at (Form-F.Parens p a) = p
place_at (Form-F.Tuple p a) = p
place_at (Form-F.Operator p a b) = p
place_at (Form-F.Chain p a b) = p
place_at (Form-F.Beside p a) = p
place_at (Form-F.Run p a) = p
place_at (Form-F.Subscript p a) = p
place_at (Form-F.Power p a) = p
place_at (Form-F.Field p a b) = p
place_at (Form-F.Method p a b c) = p
place_at (Form-F.Fill p a b c) = p
place_at (Form-F.Block p a) = p
place_at (Form-F.Do p a) = p
place_at (Form-F.If p a b) = p
place_at (Form-F.While p a b) = p
place_at (Form-F.For p a b) = p
place_at (Form-F.Case p a b c) = p
place_at (Form-F.Typecase p a b c d e) = p
place_at (Form-F.Try p a b c d) = p
place_at (Form-F.Atomic p a) = p
place_at (Form-F.Tryatomic p a) = p
place_at (Form-F.Throw p a) = p
place_at (Form-F.Fn p a b) = p
place_at (Form-F.Reduce p a b c) = p
place_at (Form-F.Assign p a b c) = p

-- The place of a form, that of its first token.
unfoldable pub place_of : Form → Place
place_of form = place_at (out-Form form)
