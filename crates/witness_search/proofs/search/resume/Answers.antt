use Rattle.std.proofs.Common.{◌≡◌, ◌++◌, ◌∷◌, [], List, map, length, refl, sym, subst, ap, reverse, arith}
use Rattle.witnesses.specs.Views.{plain_stack}
use Rattle.witness_search.specs.Askable.{IsAskable}
use Rattle.witness_search.specs.Turns.{Takes, Accepts, Ends}
use Rattle.witness_search.specs.declared.apart.Apart.{Apart}
use Rattle.witness_search.specs.declared.frames.Frame.{Frame}
use Rattle.witness_search.specs.declared.opened.Opened.{Opened}
use Rattle.witness_search.proofs.Turning.{popped, piece_resumed}
use Rattle.witness_search.proofs.search.resume.Goals as goal

nil_of : {A : Type 0} (xs : List A) → length xs ≡ 0 → xs ≡ []
nil_of [] e = refl
nil_of (x ∷ xs) e = absurd (omega (arith, e))

pub returns-in-None : goal.returns-in-None
returns-in-None g c =
    let cx = c.args.cx.now in
    let old = c.args.frames.now in
    let none = nil_of old.items (omega (arith, old.ok.0, c.in-None.ensures.cases.0)) in
    subst (λ (fs : List (Frame g.row.C-Ty.Denot)). Accepts (g.C.PatCx.is_type cx) (g.C.PatCx.context cx) (g.C.PatCx.is_value cx) g.root (reverse fs) c.args.opened.now.items (map plain_stack c.args.found.items)) none c.requires.1.1

pub returns-in-Wild : goal.returns-in-Wild
returns-in-Wild g c =
    let cx = c.args.cx.now in
    let new = c.pop.new.self.items in
    let opened = c.args.opened.now.items in
    let ws = map plain_stack c.args.found.items in
    let frame = c.in-Some.frame in
    let with_place : Opened g.row.C-Ty.Denot → Apart g.row.C-Ty.Denot = λ p. record { rows = frame.rows; place = p; next = frame.next; leaves = frame.leaves } in
    let e = with_place c.deref-place.result.now in
    let given = subst (λ (x : Apart g.row.C-Ty.Denot). Takes (g.C.PatCx.is_type cx) (g.C.PatCx.context cx) (g.C.PatCx.is_value cx) g.root.arms (Accepts (g.C.PatCx.is_type cx) (g.C.PatCx.context cx) (g.C.PatCx.is_value cx) g.root (reverse new)) x frame.stage opened ws) (ap with_place (sym c.deref-place.ensures))
    (popped (g.C.PatCx.is_type cx) (g.C.PatCx.context cx) (g.C.PatCx.is_value cx) g.root c.args.frames.now.items new frame opened ws c.in-Some.ensures.items c.requires.1.1) in
    let accepted = rw c.in-Wild.is at given in
    let all = map plain_stack c.in_ok-all-in-Wild.all.items in
    subst (λ (os : List (Opened g.row.C-Ty.Denot)). Accepts (g.C.PatCx.is_type cx) (g.C.PatCx.context cx) (g.C.PatCx.is_value cx) g.root (reverse new) os all) (sym c.in_ok-put_back-in-Wild.ensures)
    (subst (λ us. Accepts (g.C.PatCx.is_type cx) (g.C.PatCx.context cx) (g.C.PatCx.is_value cx) g.root (reverse new) (opened ++ e.place ∷ []) us) (sym c.in_ok-all-in-Wild.ensures) accepted)

pub returns-in-Missing : goal.returns-in-Missing
returns-in-Missing g c =
    let cx = c.args.cx.now in
    let new = c.pop.new.self.items in
    let opened = c.args.opened.now.items in
    let ws = map plain_stack c.args.found.items in
    let frame = c.in-Some.frame in
    let with_place : Opened g.row.C-Ty.Denot → Apart g.row.C-Ty.Denot = λ p. record { rows = frame.rows; place = p; next = frame.next; leaves = frame.leaves } in
    let e = with_place c.deref-place.result.now in
    let given = subst (λ (x : Apart g.row.C-Ty.Denot). Takes (g.C.PatCx.is_type cx) (g.C.PatCx.context cx) (g.C.PatCx.is_value cx) g.root.arms (Accepts (g.C.PatCx.is_type cx) (g.C.PatCx.context cx) (g.C.PatCx.is_value cx) g.root (reverse new)) x frame.stage opened ws) (ap with_place (sym c.deref-place.ensures))
    (popped (g.C.PatCx.is_type cx) (g.C.PatCx.context cx) (g.C.PatCx.is_value cx) g.root c.args.frames.now.items new frame opened ws c.in-Some.ensures.items c.requires.1.1) in
    let accepted = rw c.in-Missing.is at given in (
      c.in_ok-walk-in-Missing.ensures.gone,
      subst (λ (x : Apart g.row.C-Ty.Denot). IsAskable (g.C.PatCx.is_value cx) g.root.arms opened x) (sym c.in_ok-walk-in-Missing.ensures.e) accepted.1,
      subst (λ (x : Apart g.row.C-Ty.Denot). Ends (g.C.PatCx.is_type cx) (g.C.PatCx.context cx) (g.C.PatCx.is_value cx) g.root (reverse new) opened x) (sym c.in_ok-walk-in-Missing.ensures.e) accepted.2,
    )

pub returns : goal.returns
returns g c =
    let cx = c.args.cx.now in
    let new = c.pop.new.self.items in
    let opened = c.args.opened.now.items in
    let ws = map plain_stack c.args.found.items in
    let frame = c.in-Some.frame in
    let with_place : Opened g.row.C-Ty.Denot → Apart g.row.C-Ty.Denot = λ p. record { rows = frame.rows; place = p; next = frame.next; leaves = frame.leaves } in
    let e = with_place c.deref-place.result.now in
    let given = subst (λ (x : Apart g.row.C-Ty.Denot). Takes (g.C.PatCx.is_type cx) (g.C.PatCx.context cx) (g.C.PatCx.is_value cx) g.root.arms (Accepts (g.C.PatCx.is_type cx) (g.C.PatCx.context cx) (g.C.PatCx.is_value cx) g.root (reverse new)) x frame.stage opened ws) (ap with_place (sym c.deref-place.ensures))
    (popped (g.C.PatCx.is_type cx) (g.C.PatCx.context cx) (g.C.PatCx.is_value cx) g.root c.args.frames.now.items new frame opened ws c.in-Some.ensures.items c.requires.1.1) in
    let accepted = rw c.in-Piece.is at given in
    let told = c.in_ok-walk-in-Piece.ensures in
    piece_resumed (g.C.PatCx.is_type cx) (g.C.PatCx.context cx) (g.C.PatCx.is_value cx) g.root (reverse new) opened c.behind_piece.new.opened.items e c.in-Piece.within c.in_ok-walk-in-Piece.walk ws
    told.opened told.e told.cut told.todo told.done told.all accepted
