use Rattle.std.proofs.Common.{◌≡◌, ◌<◌, [], List, length, subst, reverse, rules}
use Rattle.pattern_matrix.specs.Halving.{leaf_ctors}
use Rattle.pattern_matrix.specs.Views.{plain_rows, plain_leaves}
use Rattle.pattern_matrix.specs.declared.rows.Leaf.{Leaf}
use Rattle.witness_search.specs.Opened.{places_of, numbers_of}
use Rattle.witness_search.specs.Wells.{IsWell}
use Rattle.witness_search.proofs.Turning.{wild_look, split_ends}
use Rattle.witness_search.proofs.search.open_place.Goals as goal

pub returns-then-are_wild : goal.returns-then-are_wild
returns-then-are_wild g c =
    let cx = c.args.cx.now in
    let e = c.in_ok-e.e in
    let opened = c.args.opened.now.items in
    let none = subst (λ (ls : List (Leaf g.row.C-Ty.Denot)). leaf_ctors (plain_leaves ls) ≡ []) c.deref.ensures.value (c.are_wild.ensures.none c.if-are_wild.true) in (
      subst (λ n. IsWell (g.C.PatCx.is_type cx) (g.C.PatCx.context cx) n (numbers_of opened) (places_of opened) (plain_rows c.in_ok-behind.behind.items)) c.in_ok-e.ensures.next c.in_ok-behind.ensures.well,
      c.in_ok-behind.ensures.askable g.root.arms (c.in_ok-e.ensures.askable g.root.arms c.requires.1.1.1.0),
      wild_look (g.C.PatCx.is_type cx) (g.C.PatCx.context cx) (g.C.PatCx.is_value cx) g.root c.args.frames.now.items c.put_frame.new.frames.items opened e c.bare_apart-bare.result c.args.rows.items c.args.place (plain_rows c.in_ok-behind.behind.items)
          c.in_ok-put_frame.ensures c.bare_apart-bare.ensures c.in_ok-e.ensures.rows c.in_ok-e.ensures.place c.in_ok-e.ensures.apart c.requires.1.1.1.1.0 none c.requires.1.1.1.1.1 c.in_ok-behind.ensures.behind,
    )

pub split_place-requires : goal.split_place-requires
split_place-requires g c κs within =
    let cx = c.args.cx.now in
    let e = c.in_ok-e.e in
    let some = subst (λ (ls : List (Leaf g.row.C-Ty.Denot)). 0 < length (leaf_ctors (plain_leaves ls))) c.deref.ensures.value (c.are_wild.ensures.some c.if-are_wild.false) in (
      search rules,
      (
        search rules,
        (
          c.in_ok-e.ensures.apart,
          (
            c.in_ok-e.ensures.askable g.root.arms c.requires.1.1.1.0,
            split_ends (g.C.PatCx.is_type cx) (g.C.PatCx.context cx) (g.C.PatCx.is_value cx) g.root (reverse c.args.frames.now.items) c.args.opened.now.items e c.args.rows.items c.args.place c.in_ok-e.ensures.rows c.in_ok-e.ensures.place c.in_ok-e.ensures.apart c.requires.1.1.1.1.0 some c.requires.1.1.1.1.1,
          ),
        ),
      ),
    )
