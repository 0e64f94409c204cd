use Rattle.std.proofs.Common.{◌≡◌, length, subst, sym, refl, List}
use Rattle.std.specs.Prelude.{IsTrue}
use Rattle.std.proofs.lemmas.List.{take_all}
use Rattle.std.proofs.lemmas.List.Elements.{All-more}
use Rattle.horn_clauses.specs.declared.clause.Clause.{Clause}
use Rattle.horn_clauses.specs.Marks.{IsWithin, IsHeld, HoldsThroughout, IsClosed, IsOpenHead}
use Rattle.horn_clauses.proofs.model.open_head.Goals as goal
use Rattle.horn_clauses.proofs.model.open_head.Goals.{else-not-marks-clause-via-then-not-marks-clause+else-holds_throughout, else-not-marks-clause-via-else-not-marks-clause}

pub returns-then-holds_throughout-clause-found : goal.returns-then-holds_throughout-clause-found
returns-then-holds_throughout-clause-found c x is =
    let clause = c.clause-item.result in
    let e : clause.head ≡ x = cc in
    subst (IsOpenHead c.args.clauses.now c.args.marks.now) e (record {
      unmarked = c.if-not-marks-clause.true;
      within = (subst (IsWithin (length c.args.marks.now)) (sym c.clause-item.is) (c.requires c.loop-clause.clause-index clause c.loop-clause-test.true)).head;
      clause = clause;
      listed = (c.loop-clause.clause-index, c.loop-clause-test.true, sym c.clause-item.is);
      head = refl;
      body = subst (HoldsThroughout c.args.marks.now) c.deref.ensures.value (c.holds_throughout.ensures.0 (subst IsTrue (sym c.if-holds_throughout.true) refl));
    })

pub loop-clause-preserved : goal.loop-clause-preserved
loop-clause-preserved c =
    let clause = c.clause-item.result in
    let P : Clause → Type 0 = λ x. HoldsThroughout c.args.marks.now x.body.items → IsHeld c.args.marks.now x.head in
    All-more P c.args.clauses.now c.loop-clause.clause-index clause c.loop-clause-test.true c.loop-clause.invariant
    (subst P c.clause-item.is (λ body. elim c.else-not-marks-clause.branch [
      | else-not-marks-clause-via-then-not-marks-clause+else-holds_throughout w ↦
          let yes = w.holds_throughout.ensures.1 (subst (HoldsThroughout c.args.marks.now) (sym w.deref.ensures.value) body) in
          let no = w.if-holds_throughout.false in cc
      | else-not-marks-clause-via-else-not-marks-clause w ↦ w.if-not-marks-clause.false
    ]))

pub returns-clause-closed : goal.returns-clause-closed
returns-clause-closed c none =
    subst (λ (xs : List Clause). IsClosed xs c.args.marks.now) (take_all c.loop-clause.clause-index c.args.clauses.now c.loop-clause-test.false) c.loop-clause.invariant
