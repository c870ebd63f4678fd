use Rattle.fort_run.specs.Reply.{RunsWhole}
use Rattle.fort_run.proofs.Linked.{refused_whole}
use Rattle.fort_run.proofs.Whole.{founded, is_written}
use Rattle.fort_run.proofs.link.link_texts.Goals as goal

pub returns-in-Ok : goal.returns-in-Ok
returns-in-Ok c =
    let sound = founded c.whole_is_in_order.ensures c.accepted_component_is_sound.ensures
    c.args.files.now c.in-Ok.program c.in-Ok.ensures in (
      record {
        may = record {
          written =
              is_written c.whole_is_in_order.ensures c.accepted_is_written.ensures.component
              c.args.files.now c.in-Ok.program c.in-Ok.ensures;
          never = c.founded_never_stops.ensures c.in-Ok.program sound;
          one =
              λ inner s t reached. (c.founded_runs_well.ensures c.in-Ok.program sound inner s t
              reached).one;
          through = c.founded_goes_through.ensures c.in-Ok.program sound;
        };
        texts = λ e. absurd cc;
      },
      λ reply tells. RunsWhole c.in-Ok.program c.in-Ok.ensures tells,
    )

pub returns-in_ok-refused_at-in-Err-Refused : goal.returns-in_ok-refused_at-in-Err-Refused
returns-in_ok-refused_at-in-Err-Refused c =
    refused_whole c.args.names.now c.args.files.now c.args.fuel c.in-Err-Refused.rule
    c.in-Err-Refused.at _
    (rw c.in-Err-Refused.field-0-is at c.in-Err-Refused.ensures)
    c.in_ok-refused_at-in-Err-Refused.ensures
