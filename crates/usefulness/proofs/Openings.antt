-- A column that is opened: all its pieces are left.
use Rattle.std.proofs.Common.{◌≡◌, Bool, None, List, [], ◌++◌, map, length, ap, sym, ◌∙◌, arith}
use Rattle.std.proofs.lemmas.List.{length-map}
use Rattle.std.specs.List.{All, flat_map}
use Rattle.std.specs.Option.{option_to_list}
use Rattle.match_model.specs.Values.{MValue}
use Rattle.match_model.specs.Contexts.{Context}
use Rattle.constructor_sets.specs.Columns.{plain_ctors}
use Rattle.constructor_sets.specs.declared.piece.PresentPieces.{PresentPieces}
use Rattle.constructor_sets.specs.declared.piece.Span.{Span}
use Rattle.pat_context.specs.Views.{plain_ctor}
use Rattle.pattern_matrix.specs.Halving.{AreLeafSpans}
use Rattle.pattern_matrix.specs.Parts.{plain_spans}
use Rattle.pattern_matrix.specs.Sparse.{columns_from}
use Rattle.pattern_matrix.specs.Counting.{Question}
use Rattle.usefulness.specs.declared.frames.Apart.{Apart}
use Rattle.usefulness.specs.declared.frames.Opened.{Opened}
use Rattle.usefulness.specs.declared.frames.Pending.{Pending}
use Rattle.usefulness.specs.Scope.{Scope}
use Rattle.usefulness.specs.Cutting.{parts_left}
use Rattle.usefulness.specs.Stack.{ctors_at, pending_views, IsPending, IsFresh, IsOpened, opened_views}
use Rattle.usefulness.specs.States.{child_views, IsApart, IsEnterable, apart_leaves, piece_view}
use Rattle.usefulness.proofs.Stacking.{ctors_all, numbers_long, numbers_within}

module _ {T : Type 0} (cx : Context T) where
  -- what is left of a column is what was found
  pub fresh_views : (a : Apart T) (found : PresentPieces) (spans : List Span) (p : Pending T) → IsFresh a found spans p → pending_views cx p ≡ map (piece_view cx a found.missing) (plain_ctors found.ctors.items)
  fresh_views a found spans p f =
      ap (λ a. map (piece_view cx a p.missing) (ctors_at (plain_ctors p.pieces.items) (parts_left p.parts.items))) f.apart
      ∙ ap (λ m. map (piece_view cx a m) (ctors_at (plain_ctors p.pieces.items) (parts_left p.parts.items))) f.missing
      ∙ ap (λ cs. map (piece_view cx a found.missing) (ctors_at (plain_ctors cs.items) (parts_left p.parts.items))) f.pieces
      ∙ ap (λ ks. map (piece_view cx a found.missing) (ctors_at (plain_ctors found.ctors.items) ks)) (f.left ∙ ap (columns_from 0) (sym (length-map found.ctors.items plain_ctor)))
      ∙ ap (map (piece_view cx a found.missing)) (ctors_all (plain_ctors found.ctors.items))

  pub none_views : (o : Opened T) → o.pieces ≡ None → o.wild ≡ None → opened_views cx o ≡ []
  none_views o e f = ap (λ p. flat_map (pending_views cx) (option_to_list p) ++ child_views o.wild) e ∙ ap child_views f

module _ {T : Type 0} (IsType : T → Type 0) (IsValue : T → Bool → MValue → Type 0) (cx : Context T) (scope : Scope T) (m : Question → Bool) where
  pub fresh_good : (a : Apart T) (found : PresentPieces) (spans : List Span) (p : Pending T) → IsFresh a found spans p → IsApart scope a → IsType a.taken.column.ty → All (IsEnterable IsValue cx a) (plain_ctors found.ctors.items) →
      AreLeafSpans (plain_ctors found.ctors.items) (apart_leaves a) (plain_spans spans) → IsPending IsType IsValue cx scope m p
  fresh_good a found spans p f apart ty pieces are = record {
    apart = rw f.apart apart;
    ty = rw f.apart ty;
    pieces = rw (f.apart, f.pieces) pieces;
    spans = rw (f.apart, f.pieces, f.spans) are;
    parts = rw (f.apart, f.missing, f.spans) (f.parts m);
    within = rw (f.left, f.pieces) (numbers_within 0 (length found.ctors.items) (length found.ctors.items) (omega arith));
    few = (let long = ap length f.left ∙ numbers_long 0 (length found.ctors.items) in let same = ap (λ cs. length cs.items) f.pieces in omega (arith, long, same));
  }

  pub none_good : (o : Opened T) → o.pieces ≡ None → o.wild ≡ None → IsOpened IsType IsValue cx scope m o
  none_good o e f = record { pieces = rw e tt; wild = rw f tt }
