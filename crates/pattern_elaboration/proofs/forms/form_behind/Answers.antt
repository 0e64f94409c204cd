use Rattle.pattern_elaboration.proofs.forms.form_behind.Goals as goal

pub returns-clause-made : goal.returns-clause-made
returns-clause-made c = λ from h. c.in_ok-made.ensures.made c.args.table.now from c.requires.levels
    (c.in_ok-form.ensures.made from h)
