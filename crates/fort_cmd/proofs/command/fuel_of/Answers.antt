use Rattle.std.proofs.Common.{◌∙◌, ap, arith}
use Rattle.std.specs.Prelude.{unwrap_or}
use Rattle.std.specs.Str.Parse.{ParsesUnsigned, ExplainsUnsignedError, HasUnsignedDigitsIfOk}
use Rattle.clap.specs.Matches.{found_of}
use Rattle.fort_cmd.specs.Words.{Fuel, default_fuel}
use Rattle.fort_cmd.proofs.Matched.{option_read}
use Rattle.fort_cmd.proofs.command.fuel_of.Goals as goal

pub returns : goal.returns
returns c = λ n f.
    let read =
    option_read _ (λ bs r. ParsesUnsigned 64 10 bs r × ExplainsUnsignedError 10 bs r
    × HasUnsignedDigitsIfOk bs r) 64 (λ word r g. g.0)
    (found_of c.args.given.now) c.get_one.result Fuel (omega arith) c.get_one.ensures.none
    c.get_one.ensures.value n f in
    c.unwrap_or.ensures ∙ ap (λ o. unwrap_or o default_fuel) read
