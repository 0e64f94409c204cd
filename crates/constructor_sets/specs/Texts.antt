-- The texts of a column, each beside its first bytes as a number and the number of its head.
use Rattle.std.specs.Prelude.{◌≡◌, chars, slice_index_or, slice_get, ℕ, zero, suc, ◌+◌, ◌-◌, ◌*◌, ◌<◌, ◌≤◌, Bool, true, false, not, ◌&&◌, nat_eq, cond, List, [], ◌∷◌, ◌++◌, map, length, Option, Some, None}
use Rattle.std.specs.Str.{IsUtf8, bytes_eq}
use Rattle.std.specs.Ordering.{on, then_cmp, nat_cmp}
use Rattle.std.specs.declared.cmp.Ordering.{Ordering}
use Rattle.std.specs.Cmp.Lexicographic.{slice_cmp}
use Rattle.match_model.specs.Constructors.{TextCtor}
use Rattle.pat_context.specs.Views.{plain_ctor}
use Rattle.pat_context.specs.declared.ctor.Ctor.{Ctor}
use Rattle.pat_context.specs.declared.ctor.Ctor.TheVariants.{OtherText}
use Rattle.constructor_sets.specs.declared.piece.Span.{Span}
use Rattle.constructor_sets.specs.declared.texts.Entry.{Entry}

-- the text of an entry, as scalar values
abbrev pub entry_text : Entry → List ℕ
entry_text e = chars e.text.now

-- the texts of entries
abbrev pub entry_texts : List Entry → List (List ℕ)
entry_texts entries = map entry_text entries

-- how much a byte counts that has so many behind it
abbrev pub weight : ℕ → ℕ
weight zero = 1
weight (suc digits) = 256 * weight digits

-- the number that so many first bytes write in base 256, with zeros behind a shorter text
abbrev pub first_number : (digits : ℕ) → (bytes : List ℕ) → ℕ
first_number zero bytes = 0
first_number (suc digits) [] = 0
first_number (suc digits) (b ∷ bytes) = b * weight digits + first_number digits bytes

-- each number is one of a byte
abbrev pub AreBytes : List ℕ → Type 0
AreBytes bytes = (i : ℕ) → slice_index_or bytes i 0 < 256

-- the entry is of the text that is the head at its place
pub record IsEntry (heads : List Ctor) (e : Entry) : Type 0 where
  pub begun : e.begin ≡ first_number 8 e.text.now
  pub utf8 : IsUtf8 e.text.now
  pub bytes : AreBytes e.text.now
  pub within : e.place < length heads
  pub is_head : (d : Ctor) → plain_ctor (slice_index_or heads e.place d) ≡ TextCtor (entry_text e)

-- how two entries stand to each other: by their first bytes, and then by all
abbrev pub entry_cmp : Entry → Entry → Ordering
entry_cmp = then_cmp (on (λ e. e.begin) nat_cmp) (on (λ e. e.text.now) (slice_cmp nat_cmp))

-- two entries have one text
abbrev pub same_entry : Entry → Entry → Bool
same_entry x y = nat_eq x.begin y.begin && bytes_eq x.text.now y.text.now

-- the last of a list
abbrev pub last_of : {X : Type 0} → List X → Option X
last_of xs = slice_get xs (length xs - 1)

-- the entry has the text of the one before it, if there is one
abbrev pub continues : Option Entry → Entry → Bool
continues None e = false
continues (Some last) e = same_entry e last

-- the entries with one more, where it has another text than the last of them
abbrev pub with_text : List Entry → Entry → List Entry
with_text named e = cond (continues (last_of named) e) named (named ++ e ∷ [])

-- the span of the last of so many texts
abbrev pub last_span : ℕ → Span
last_span count = record { first = count - 1; end = count }

-- each span that does not end before it begins is of one text, which is the head at its place
pub record AreNumbered (heads : List Ctor) (texts : List (List ℕ)) (known : List Span) : Type 0 where
  pub len : length known ≡ length heads
  pub each : (i : ℕ) (h : Ctor) (s : Span) (t : List ℕ) → i < length known → (slice_index_or known i s).first ≤ (slice_index_or known i s).end →
      ((slice_index_or known i s).end ≡ (slice_index_or known i s).first + 1) × ((slice_index_or known i s).first < length texts)
      × (plain_ctor (slice_index_or heads i h) ≡ TextCtor (slice_index_or texts (slice_index_or known i s).first t))

-- the piece of all texts that are not named
abbrev pub is_other_text : Option Ctor → Bool
is_other_text (Some OtherText) = true
is_other_text _ = false

-- the pieces are so many, and the last of them is not that of all other texts
abbrev pub is_each_text : ℕ → List Ctor → Bool
is_each_text count pieces = nat_eq (length pieces) count && not (is_other_text (last_of pieces))
