-- "Forms" of docs/TRANSLATION.md: what each task of a walk means, in the words of fort_elab_meaning.
use Rattle.std.specs.Prelude.{List, [], ◌∷◌, map, Option, option_map}
use Rattle.fort_core.specs.declared.term.Term.{Term}
use Rattle.fort_form_typed.specs.declared.typed_form.TypedForm.{TypedForm}
use Rattle.fort_elab_meaning.specs.Making.{Maker}
use Rattle.fort_elab_meaning.specs.Parts.{Given, Part}
use Rattle.fort_elab_meaning.specs.Values.{unit_term, no_match}
use Rattle.fort_elab_meaning.specs.Calls.{sides}
use Rattle.fort_elab_meaning.specs.Items.{block, loops, parameter}
use Rattle.fort_elab_meaning.specs.Choices.{or_else, branches, clauses}
use Rattle.fort_elab_meaning.specs.Translated.{part, translated}
use Rattle.fort_elab_tasks.specs.declared.task.Row.{Row}
use Rattle.fort_elab_tasks.specs.declared.task.Row.TheVariants as a_row
use Rattle.fort_elab_tasks.specs.declared.task.Test.{Test}
use Rattle.fort_elab_tasks.specs.declared.task.Test.TheVariants as a_test
use Rattle.fort_elab_tasks.specs.declared.task.Task.{Task}
use Rattle.fort_elab_tasks.specs.declared.task.Task.TheVariants as a_task
use Rattle.fort_elab_tasks.specs.declared.state.State.{State}
use Rattle.fort_elab_tasks.specs.States.{said, opened, each, gathered, numbered, function_numbered, newest, latest, found, named, all_named, left}
use Rattle.fort_elab_tasks.specs.Builds.{built}

abbrev pub parts : Given → List TypedForm → List Part
parts g fs = map (part g) fs

abbrev pub makers : Given → List TypedForm → List Maker
makers g fs = map (translated g) fs

-- What stands behind `else`, or another term where nothing does.
abbrev pub other : Given → Option TypedForm → Term → Maker
other g f t = or_else (option_map (part g) f) t

-- Forms one after another.
abbrev pub row_done : Given → Row → List TypedForm → State → State
row_done g a_row.List fs s = each (makers g fs) s
row_done g a_row.Items fs s = said (block (parts g fs)) s
row_done g (a_row.Sides set cs k) fs s =
    said (sides g set cs.now (parts g fs) (latest k s.numbers)) s

-- Tests with what each gives, and the `else`.
abbrev pub tests_done : Given → Test → List TypedForm → List TypedForm → Option TypedForm → State
    → State
tests_done g a_test.True ts vs e s =
    said (branches (parts g ts) (parts g vs) (other g e unit_term)) s
tests_done g (a_test.Equal cs) ts vs e s =
    said (clauses g cs.now (parts g ts) (parts g vs) (other g e (no_match g)) (newest s.numbers)) s

-- What a task does.
abbrev pub on : Given → Task → State → State
on g (a_task.See f) s = said (translated g f.now) s
on g (a_task.Row row fs) s = row_done g row fs.now s
on g (a_task.Loops xs fs b) s = said (loops xs.now (parts g fs.now) (translated g b.now)) s
on g (a_task.Tests test ts vs e) s = tests_done g test ts.now vs.now e.now s
on g a_task.Open s = opened s
on g a_task.Gather s = gathered s
on g a_task.Number s = numbered s
on g a_task.Function s = function_numbered s
on g (a_task.Find name) s = found name s
on g (a_task.Name name) s = named name s
on g (a_task.Names xs) s = all_named xs.now s
on g (a_task.Parameters ps) s = all_named (map parameter ps.now) s
on g (a_task.Leave n) s = left n s
on g (a_task.Build b) s = built g b s

-- What tasks do, the first first.
abbrev pub run : Given → List Task → State → State
run g [] s = s
run g (t ∷ ts) s = run g ts (on g t s)
