-- The chapter "Typing", runs and juxtapositions: two elements, put together in one of the three
-- ways.
use Rattle.fort_typing_known.specs.Known.{Facts}
use Rattle.fort_typing_rules.specs.declared.part.Part.{Part}
use Rattle.fort_typing_meaning.specs.declared.frame.Made.{Made}
use Rattle.fort_typing_meaning.specs.Joining.{applied, followed, joined}
use Rattle.fort_typing_joined.specs.declared.way.Way.{Way}
use Rattle.fort_typing_joined.specs.declared.way.Way.TheVariants as a_way

abbrev pub put_together : Facts → Way → Part → Part → Made
put_together k a_way.Apply = applied k
put_together k a_way.Follow = followed k
put_together k a_way.Join = joined k
