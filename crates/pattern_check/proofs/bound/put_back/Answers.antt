use Rattle.std.proofs.Common.{ℕ, List, [], ◌∷◌, ◌++◌, map, take, length, Bor, sym, subst, arith}
use Rattle.pattern_check.specs.Walks.{text_at, Adds}
use Rattle.pattern_check.proofs.NameLists.{adds_both, adds_key, one_more_text}
use Rattle.std.proofs.lemmas.List.{take_all}
use Rattle.std.proofs.Common.{get_or, ◌<◌}
use Rattle.std.proofs.lemmas.List.{get_or_default}
use Rattle.pattern_check.proofs.bound.put_back.Goals as goal

pub loop-name-preserved : goal.loop-name-preserved
loop-name-preserved c =
    let d : Bor (List ℕ) = record { ref_ptr = (0, 0); now = [] } in
    let i = c.loop-name.name-index in
    let x : Bor (List ℕ) = get_or c.args.aside.now i d in
    let lt : i < length c.args.aside.now = omega arith in
    let old = map text_at c.args.names.now.keys in
    let new = map text_at c.insert.new.self.keys in
    let more : Adds old new (map text_at (take i c.args.aside.now) ++ x.now ∷ [])
    = adds_both old (map text_at c.loop-name.names.keys) new (map text_at (take i c.args.aside.now)) (x.now ∷ []) c.loop-name.invariant
    (adds_key c.loop-name.names.keys x c.insert.new.self.keys c.in_ok-insert.ensures.keys) in
    subst (λ (ns : List (List ℕ)). Adds old new ns) (sym (one_more_text c.args.aside.now i x lt (get_or_default c.args.aside.now i d x lt))) more

pub returns : goal.returns
returns c =
    subst (λ (xs : List (Bor (List ℕ))). Adds (map text_at c.args.names.now.keys) (map text_at c.loop-name.names.keys) (map text_at xs))
    (take_all c.loop-name.name-index c.args.aside.now (omega arith)) c.loop-name.invariant
