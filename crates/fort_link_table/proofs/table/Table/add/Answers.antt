use Rattle.std.proofs.Common.{◌≡◌, ◌++◌, ◌+◌, ◌∙◌, drop, length, ap, rules}
use Rattle.fort_link_table.specs.declared.table.Table.{Table}
use Rattle.fort_link_table.specs.Names.{grown}
use Rattle.fort_link_table.proofs.Growing.{grown_behind, rest_is}
use Rattle.fort_link_table.proofs.table.Table.add.Goals as goal

pub returns-clause-after : goal.returns-clause-after
returns-clause-after c =
    let old = c.args.self.now.names in let all = grown old c.args.tokens.names in
    let more : c.in_ok-more.more ≡ drop (length old) all =
    c.in_ok-more.ensures ∙ rest_is c.len-before.result c.as_slice.result.now
    ∙ ap (drop c.len-before.result) (c.as_slice.ensures ∙ c.in_ok-list.ensures.names)
    ∙ ap (λ n. drop n all) c.len-before.ensures
    in let names : c.append-2.new.self ≡ all =
    c.in_ok-append-2.ensures.ok ∙ ap (λ z. old ++ z) more
    ∙ grown_behind old c.args.tokens.names
    in let texts : c.append-3.new.self ≡ c.args.self.now.texts ++ c.args.tokens.texts = search rules
    in ap (λ z. record {
      names = z;
      texts = c.append-3.new.self;
      lines = c.args.self.now.lines + c.args.lines;
    }) names ∙ ap (λ z. record {
      names = all;
      texts = z;
      lines = c.args.self.now.lines + c.args.lines;
    }) texts
