-- Every context that keeps the laws, with sets that a program can write, is an engine.
use Rattle.std.proofs.Common.{◌≡◌, inl, inr, ℕ, Bool, true}
use Rattle.match_model.specs.Values.{MValue}
use Rattle.match_model.specs.Constructors.{MCtor, builds}
use Rattle.match_model.specs.Contexts.{Context}
use Rattle.match_model.specs.ContextLaws.{PartsLaw, ValuesLaw, ValueIs}
use Rattle.match_model.specs.PieceStates.{named_in}
use Rattle.match_model.specs.Keys.{Decision}
use Rattle.match_model.specs.Lists.{Among}
use Rattle.keyed_rows.proofs.Parting.{among-every}
use Rattle.match_model.specs.Lowering.{ctors_at}
use Rattle.keyed_steps.specs.Engine.{IsEngine}
use Rattle.constructor_sets.proofs.Once.{once_of}
use Rattle.keyed_steps.specs.Good.{IsGood, IsReady}
use Rattle.keyed_steps.specs.Piecewise.{PiecesCut, IsFit}
use Rattle.keyed_steps.proofs.Lawful.{lawful-engine}
use Rattle.tree_laws.proofs.InColumn.{column-some, present-some}
use Rattle.tree_laws.proofs.PiecesFit.{IsColumnCtor, column-ctors, column-heads, type-of, fit-here, pieces-fit}
use Rattle.tree_laws.proofs.PiecesCut.{IsHit, hit-one, value-seen, case-is}
use Rattle.tree_laws.proofs.PiecesDistinct.{pieces-distinct}

module _ {T : Type 0} (IsType : T → Type 0) (cx : Context T) (V : T → Bool → MValue → Type 0)
    (law : PartsLaw IsType V cx) (values : ValuesLaw IsType V cx) (decides : ℕ → Decision) where
  pub pieces-cut : PiecesCut IsType cx V decides
  pieces-cut i c columns rows pieces ready there are some = record {
    distinct =
        pieces-distinct (cx.set_of c.type) (ctors_at i rows) pieces (values.ascend c.type type)
        (column-heads IsType cx V values decides i c columns rows ready there) are;
    one = λ u w. one u w;
    case = λ p u a present s.
        (let k = present-some (ctors_at i rows) p present in
        let f : IsFit cx i c rows pieces p = fit-here IsType cx V values decides i c columns rows ready there pieces p
        are a in
        case-is (cx.set_of c.type) (named_in pieces) p k.0 u f.belong (ctor k.0 k.1) k.2 s);
  }
    where
      type : IsType c.type
      type = type-of IsType cx V values decides i c columns rows ready there

      ctor : (k : MCtor) → Among k (ctors_at i rows) → IsColumnCtor (cx.set_of c.type) k
      ctor k a =
          among-every (IsColumnCtor (cx.set_of c.type)) (ctors_at i rows) k
          (column-ctors IsType cx V values decides i c columns rows ready there) a

      one : (u : MValue) → V c.type c.sure u → (p : MCtor) × Among p pieces × (builds (named_in pieces) p u ≡ true)
          × ((q : MCtor) → Among q pieces → builds (named_in pieces) q u ≡ true → q ≡ p)
      one u w =
          let k = column-some i rows some in
          let g : IsColumnCtor (cx.set_of c.type) k.0 = ctor k.0 k.1 in
          let v : ValueIs (cx.set_of c.type) c.sure u = values.each c.type c.sure u type w in
          let h : IsHit (named_in pieces) pieces u = hit-one (named_in pieces) pieces u
          (once_of (cx.set_of c.type) c.sure (ctors_at i rows) pieces (values.ascend c.type type) are u v
          (λ e. value-seen (cx.set_of c.type) c.sure k.0 u g.belong v (inl e))
          (λ e. value-seen (cx.set_of c.type) c.sure k.0 u g.belong v (inr e))) in
          (h.by, h.among, h.built, h.only)

  -- the record of the tree theorem
  pub context-engine : IsEngine cx V decides (IsGood IsType cx decides) (IsReady IsType cx decides)
  context-engine = lawful-engine IsType cx V law values decides (pieces-fit IsType cx V values decides) pieces-cut
