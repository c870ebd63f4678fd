-- The program of a component suits what is known of the component.
use Rattle.std.proofs.Common.{◌≡◌, Option, ap}
use Rattle.fort_base.specs.declared.ids.TypeId.{TypeId}
use Rattle.fort_base.specs.declared.ty.Ty.TheVariants.{Named}
use Rattle.fort_types_builtin.specs.declared.types.TheConstants.{BUILT_IN}
use Rattle.fort_core.specs.declared.program.BuiltIn.{BuiltIn}
use Rattle.fort_core.specs.declared.program.Program.{Program}
use Rattle.fort_lex_token.specs.declared.token.Tokens.{Tokens}
use Rattle.fort_tree.specs.declared.declarations.Component.{Component}
use Rattle.fort_tree.specs.declared.grouped.Groups.{Groups}
use Rattle.fort_hier.specs.declared.accepted.Hierarchy.{Hierarchy}
use Rattle.fort_types_sets.specs.declared.member.Members.{Members}
use Rattle.fort_typing_known.specs.Known.{within}
use Rattle.fort_typing_law_ready.specs.Fit.{known_of}
use Rattle.fort_form_typed.specs.declared.component.Typed.{Typed}
use Rattle.fort_elab_meaning.specs.Programs.{given}
use Rattle.fort_sound_forms.specs.Suits.{Suits}
use Rattle.fort_sound_program.specs.Checked.{Checked}
use Rattle.fort_sound_program.proofs.Calls.{declared, widens}
use Rattle.fort_sound_program.proofs.Joins.{joins}
use Rattle.fort_sound_program.proofs.Order.{computed, rows_through}
use Rattle.fort_sound_program.proofs.SingleObjects.{no_match, no_item, single_is_value}
use Rattle.fort_sound_program.proofs.Suiting.{tops, fields, mutable}

module _ (tokens : Tokens) (c : Component) (h : Hierarchy) (m : Members) (groups : Groups)
    (typed : Typed) (p : Program) (ok : Checked tokens c h m groups typed p) where
  named_by : (f : BuiltIn → TypeId) → Named (f p.built_in) ≡ Named (f BUILT_IN)
  named_by f = ap (λ b. Named (f b)) ok.program.built_in

  pub suited : (owner : Option TypeId)
      → Suits (within (known_of c h m) owner) (given m c.texts typed) p
  suited owner = record {
    told = λ a b n w. computed c h ok.hierarchy p ok.program.types a b n w;
    through = rows_through c h ok.hierarchy p ok.program.types;
    small = named_by (λ b. b.small);
    large = named_by (λ b. b.large);
    text = named_by (λ b. b.text);
    truth = named_by (λ b. b.truth);
    range = named_by (λ b. b.range);
    thrown = named_by (λ b. b.exception);
    declared = λ set s i d e st. let w = declared tokens c h m groups typed p ok set s i d e st
        in record {
          members = w.members;
          number = w.number;
          decl = w.decl;
          is_set = w.is_set;
          is_member = w.is_member;
          is_decl = w.is_decl;
          parameters = w.parameters;
          result = w.result;
        };
    widens = widens tokens c h m groups typed p ok;
    joins = joins tokens c h m groups typed p ok owner;
    tops = tops tokens c h m groups typed p ok;
    singles = single_is_value tokens c h m groups typed p ok owner;
    no_match = no_match tokens c h m groups typed p ok;
    no_item = no_item tokens c h m groups typed p ok;
    fields = fields tokens c h m groups typed p ok;
    mutable = mutable tokens c h m groups typed p ok;
  }
