-- What the code's `Known` says.
use Rattle.fort_typing_known.specs.declared.known.Known.{Known}
use Rattle.fort_typing_known.specs.declared.standing.Standing.{Standing}
use Rattle.fort_typing_known.specs.declared.standing.Standing.TheVariants as a_standing
use Rattle.fort_typing_known.specs.Known.{Facts}
use Rattle.fort_typing_known.specs.Names as names

-- what the code knows
abbrev pub facts : Known → Facts
facts k =
    record {
      table = k.table.now;
      types = k.index.now.types.now;
      names = k.names.now;
      members = k.index.now.members.now;
      owner = k.owner;
    }

-- what the code's `Standing` says
abbrev pub standing_of : Standing → names.Standing
standing_of (a_standing.Bound b) = names.a_binding b.now
standing_of (a_standing.Own t f) = names.a_field t f.now
standing_of (a_standing.Variable n v) = names.a_variable n v.now
standing_of (a_standing.Single t) = names.a_single t
standing_of a_standing.Functions = names.functions
standing_of a_standing.Nothing = names.nothing
