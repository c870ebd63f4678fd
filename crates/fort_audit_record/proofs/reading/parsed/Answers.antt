use Rattle.std.proofs.Common.{rules, ◌≡◌, ◌-◌, ◌++◌, ◌∷◌, [], length, sym, ap, ◌∙◌, append_assoc, length-append, arith}
use Rattle.fort_audit_record.proofs.Whole.{form_fault, end_fault, all_read, one_more, at_end, whole_is, whole_not}
use Rattle.fort_audit_record.proofs.reading.parsed.Goals as goal

pub returns-in-None-clause-fault : goal.returns-in-None-clause-fault
returns-in-None-clause-fault c =
    let front = c.bytes.invariant.front in
    let rest : c.bytes.rest.now ≡ c.in-Some.byte.now ∷ c.in-Some.more.now = search rules in
    let parts : c.args.bytes.now ≡ front ++ c.in-Some.byte.now ∷ c.in-Some.more.now =
    c.bytes.invariant.parts ∙ ap (λ x. front ++ x) rest in
    form_fault c.args.bytes.now front c.bytes.reader c.in-Some.byte.now c.in-Some.more.now
    (length c.args.bytes.now - length c.bytes.rest.now) parts
    (omega (arith, ap length c.bytes.invariant.parts, length-append front c.bytes.rest.now))
    c.bytes.invariant.is_read (sym c.in_ok-read.ensures ∙ c.in-None.is)

pub bytes-preserved : goal.bytes-preserved
bytes-preserved c =
    let front = c.bytes.invariant.front in
    let rest : c.bytes.rest.now ≡ c.in-Some.byte.now ∷ c.in-Some.more.now = search rules in
    record {
      front = front ++ c.in-Some.byte.now ∷ [];
      parts = c.bytes.invariant.parts ∙ ap (λ x. front ++ x) rest
          ∙ sym (append_assoc front (c.in-Some.byte.now ∷ []) c.in-Some.more.now);
      is_read =
          one_more front c.bytes.reader c.in-Some-2.next c.in-Some.byte.now
          c.bytes.invariant.is_read (sym c.in_ok-read.ensures ∙ c.in-Some-2.is);
    }

pub returns-then-not-is_whole-clause-fault : goal.returns-then-not-is_whole-clause-fault
returns-then-not-is_whole-clause-fault c =
    end_fault c.args.bytes.now c.bytes.reader
    (at_end c.args.bytes.now c.bytes.invariant.front c.bytes.rest.now c.bytes.reader
    c.bytes.invariant.parts c.in_default.ensures.cases c.bytes.invariant.is_read)
    (whole_not c.bytes.reader.stage (search rules))

pub returns-clause-ok : goal.returns-clause-ok
returns-clause-ok c =
    all_read c.args.bytes.now c.bytes.reader
    (at_end c.args.bytes.now c.bytes.invariant.front c.bytes.rest.now c.bytes.reader
    c.bytes.invariant.parts c.in_default.ensures.cases c.bytes.invariant.is_read)
    (whole_is c.bytes.reader.stage (search rules))
