-- The laws of the search, together.
use Rattle.std.proofs.Common.{Bool}
use Rattle.match_model.specs.Values.{MValue}
use Rattle.match_model.specs.Contexts.{Context}
use Rattle.match_model.specs.ContextLaws.{PartsLaw, ValuesLaw}
use Rattle.pattern_matrix.specs.SearchLaws.{RowsAreListed, PlacesMayBeMoved, SearchIsExact}
use Rattle.pattern_matrix.proofs.ListedRows as listing
use Rattle.pattern_matrix.proofs.Moving.{fit_moved, comes_moved, comes_unmoved, weighs_moved}
use Rattle.pattern_matrix.proofs.SearchSteps.{begins, looks, split_is_look, noted, restates, forgets, alike_weighs, repeats, alike_come, ends, work_falls}

pub rows_listed : {T : Type 0} → RowsAreListed T
rows_listed = record {
  none = listing.none_listed;
  later = listing.listed_later;
  leave_guarded = listing.leave_guarded;
  note_guarded = listing.note_guarded;
  list_row = listing.list_row;
  all = listing.listed_all;
  close = listing.close;
  note_last = listing.note_last;
  cut_behind = listing.cut_behind;
  noted_counts = listing.noted_counts;
}

module _ {T : Type 0} (IsType : T → Type 0) (IsValue : T → Bool → MValue → Type 0) (cx : Context T) where
  pub places_moved : PlacesMayBeMoved IsType IsValue cx
  places_moved = record {
    fit = fit_moved IsType IsValue cx;
    comes = λ i s f q. (comes_moved IsType IsValue cx i s f q, comes_unmoved IsType IsValue cx i s f q);
    weighs = weighs_moved;
  }

  pub search_exact : ValuesLaw IsType IsValue cx → PartsLaw IsType IsValue cx → SearchIsExact IsType IsValue cx
  search_exact values law = record {
    begins = begins IsType IsValue cx;
    looks = looks IsType IsValue cx;
    by_split = split_is_look IsType IsValue cx values law;
    noted = noted IsType IsValue cx;
    restates = restates IsType IsValue cx;
    forgets = forgets IsType IsValue cx;
    repeats = repeats IsType IsValue cx;
    alike = alike_come IsType IsValue cx;
    alike_weighs = alike_weighs;
    ends = ends IsType IsValue cx;
    falls = work_falls;
  }
