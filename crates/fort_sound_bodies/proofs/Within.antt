-- What is known in the declaration of a type.
use Rattle.std.proofs.Common.{◌≡◌, ◌<◌, Bool, List, length, Option, Some}
use Rattle.fort_base.specs.declared.ids.SetId.{SetId}
use Rattle.fort_base.specs.declared.ids.TypeId.{TypeId}
use Rattle.fort_base.specs.declared.ty.Ty.{Ty}
use Rattle.fort_core.specs.declared.program.Program.{Program}
use Rattle.fort_typing_known.specs.Known.{Knows, within}
use Rattle.fort_typing_known.specs.Sets.{set_of}
use Rattle.fort_typing_rules.specs.Calls.{Calls, plain, widening}
use Rattle.fort_typing_law_rules.specs.Deciding.{IsAccepted}
use Rattle.fort_elab_meaning.specs.Parts.{Given}
use Rattle.fort_sound_forms.specs.Suits.{Suits}

-- a call has the same there
pub there : (k : Knows) (o : Option TypeId) (set : SetId) (types : List Ty) (result : Ty)
    (widened : List Bool) → Calls k set types result widened
    → Calls (within k o) set types result widened
there k o set types result widened (plain s i d at best stands r w) = plain s i d at best stands r w
there k o set types result widened
    (widening s i j q d wide at none least first are best stands r w) =
    widening s i j q d wide at none least first are best stands r w

-- what is accepted is accepted there, where the type is one of the component
pub accepted_within : (k : Knows) (o : Option TypeId) → IsAccepted k
    → ((t : TypeId) → o ≡ Some t → t.0 < length k.declared) → IsAccepted (within k o)
accepted_within k o A l = record {
  sound = A.sound;
  rows = A.rows;
  built_in = A.built_in;
  objects = A.objects;
  made = A.made;
  kept = A.kept;
  fields = A.fields;
  variables = A.variables;
  enclosed = l;
}

-- what suits suits there
pub suits_within : (k : Knows) (o : Option TypeId) (g : Given) (p : Program) → Suits k g p
    → Suits (within k o) g p
unfolding set_of
suits_within k o g p U = record {
  told = U.told;
  through = U.through;
  small = U.small;
  large = U.large;
  text = U.text;
  truth = U.truth;
  range = U.range;
  thrown = U.thrown;
  declared = U.declared;
  widens = U.widens;
  joins = U.joins;
  tops = U.tops;
  singles = U.singles;
  no_match = U.no_match;
  no_item = U.no_item;
  fields = U.fields;
  mutable = U.mutable;
}
