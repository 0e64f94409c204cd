use Rattle.pattern_elaboration.proofs.leaves.binding.Goals as goal

pub returns-clause-made : goal.returns-clause-made
returns-clause-made c = c.in_ok-made.ensures.made c.args.table.now c.args.next.now c.wildcard.new.next
    c.in_ok-pattern.ensures.made
