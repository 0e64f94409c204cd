-- The findings of a report, and their places.
use Rattle.std.specs.Prelude.{ℕ, ◌+◌, ◌==◌, ◌||◌, List, [], ◌∷◌, ◌++◌, Bool, false, map, nat_le, if◌then◌else◌, Option, Some, None, slice_get}
use Rattle.explain_report.specs.Records.{RefusedTree, OverlapTree, JudgedTree, VerdictTree, IsJudged, IsRefused, FunctionTree, ReportTree, OfFunctions}
use Rattle.explain_report.specs.Records as records
use Rattle.explain_report.specs.declared.records.Unreached.{Unreached}
use Rattle.explain_places.specs.declared.pieces.Piece.{Piece}
use Rattle.explain_places.specs.declared.bodies.Body.{Body}
use Rattle.explain_places.specs.declared.bodies.End.{End}
use Rattle.explain_places.specs.declared.spans.Place.{Place}
use Rattle.explain_places.specs.declared.spans.Place.TheVariants.{Nowhere, There, Lost}
use Rattle.explain_places.specs.Bodies.{bodies_of}
use Rattle.explain_places.specs.Spans.{binding_at, name_at, pair_at, pattern_at, token_at}
use Rattle.explain_text.specs.Sources.{is_place}
use Rattle.explain_text.specs.declared.findings.Head.{Head}
use Rattle.explain_text.specs.declared.findings.Kind.{Kind}
use Rattle.explain_text.specs.declared.findings.Kind.TheVariants as kinds
use Rattle.explain_text.specs.declared.findings.Finding.{Finding}

-- what a finding says: a match of a function is not exhaustive, with the function's number, where arms are added to it,
-- and what is missing; no value reaches an arm or an alternative; two ranges overlap, with the place of the other one and
-- the number; a function breaks a rule; the file does
pub data KindTree : Type 0 where
  OfMissing : (function : List ℕ) → (number : ℕ) → (end : End) → (witnesses : List (List ℕ)) → KindTree
  OfUnreached : (function : List ℕ) → (whole : Bool) → KindTree
  OfOverlap : (function : List ℕ) → (other : Place) → (value : List ℕ) → KindTree
  OfRefused : (function : List ℕ) → (rule : ℕ) → (name : List ℕ) → KindTree
  OfFileRefused : (rule : ℕ) → (name : List ℕ) → KindTree

-- a finding and its place
pub record FindingTree : Type 0 where
  pub place : Place
  pub kind : KindTree

abbrev pub kind_view : Kind → KindTree
kind_view (kinds.Missing function number end witnesses) = OfMissing function.now number end (map (λ w. w.now) witnesses.now)
kind_view (kinds.Unreached function whole) = OfUnreached function.now whole
kind_view (kinds.Overlap function other value) = OfOverlap function.now other value.now
kind_view (kinds.Refused function rule name) = OfRefused function.now rule name.now
kind_view (kinds.FileRefused rule name) = OfFileRefused rule name.now

abbrev pub finding_view : Finding → FindingTree
finding_view f = record { place = f.place; kind = kind_view f.kind }

-- the function of this number: what its match is on, and where arms are added to it
abbrev pub head_from : ℕ → Option Body → Head
head_from i (Some body) = record { number = i; scrutinee = There body.scrutinee; end = body.end }
head_from i None = record { number = i; scrutinee = Lost; end = record { place = Nowhere; comma = false } }

abbrev pub head_of : List Piece → ℕ → Head
head_of ps i = head_from i (slice_get (bodies_of ps) i)

-- a match that is not exhaustive is found at its scrutinee
abbrev pub missing_findings : List ℕ → Head → JudgedTree → List FindingTree
missing_findings function head j =
    if j.exhaustive then [] else record { place = head.scrutinee; kind = OfMissing function head.number head.end j.witnesses } ∷ []

-- an arm or alternative that no value reaches
abbrev pub unreached_finding : List Piece → List ℕ → Unreached → FindingTree
unreached_finding ps function u = record { place = pattern_at u.whole u.at ps; kind = OfUnreached function u.whole }

-- ranges that overlap are found at the first one
abbrev pub overlap_finding : List Piece → List ℕ → OverlapTree → FindingTree
overlap_finding ps function o =
    record { place = pattern_at false o.at ps; kind = OfOverlap function (pattern_at false o.«with» ps) o.value }

-- where a function breaks a rule: at the scrutinee, which is a `*` and a name, at the name of a binding, or at a part of
-- a pattern
abbrev pub broken_at : List Piece → ℕ → ℕ → Place
broken_at ps rule at =
    if rule == 34 then pair_at at ps else (if rule == 21 || rule == 30 then binding_at at ps else pattern_at false at ps)

abbrev pub broken_place : List Piece → ℕ → Option ℕ → Place
broken_place ps rule (Some at) = broken_at ps rule at
broken_place ps rule None = Nowhere

-- a byte of the file, or any one where it is no text
abbrev pub byte_place : List ℕ → ℕ → Bool → Place
byte_place file at any = if is_place file at any then There (record { from = at; to = at }) else Lost

-- where a file breaks a rule: at a byte, at the token with which no item begins, or at the name of an item
abbrev pub file_broken_at : List ℕ → List Piece → ℕ → ℕ → Place
file_broken_at file ps rule at =
    if nat_le rule 5 then byte_place file at (rule == 1) else (if rule == 6 then token_at at ps else name_at at ps)

abbrev pub file_broken_place : List ℕ → List Piece → ℕ → Option ℕ → Place
file_broken_place file ps rule (Some at) = file_broken_at file ps rule at
file_broken_place file ps rule None = Nowhere

-- what is found of a function
abbrev pub verdict_findings : List Piece → List ℕ → Head → VerdictTree → List FindingTree
verdict_findings ps function head (IsJudged j) =
    missing_findings function head j ++ (map (unreached_finding ps function) j.unreachable ++ map (overlap_finding ps function) j.overlaps)
verdict_findings ps function head (IsRefused r) = record { place = broken_place ps r.rule r.at; kind = OfRefused function r.rule r.name } ∷ []

abbrev pub function_findings : List Piece → Head → FunctionTree → List FindingTree
function_findings ps head f = verdict_findings ps f.name head f.verdict

-- what is found of functions, of which the first has this number
abbrev pub functions_findings : List Piece → ℕ → List FunctionTree → List FindingTree
functions_findings ps i [] = []
functions_findings ps i (f ∷ fs) = function_findings ps (head_of ps i) f ++ functions_findings ps (i + 1) fs

-- what is found of a file that is refused
abbrev pub refused_finding : List ℕ → List Piece → RefusedTree → FindingTree
refused_finding file ps r = record { place = file_broken_place file ps r.rule r.at; kind = OfFileRefused r.rule r.name }

-- what a report has found, in its order
abbrev pub report_findings : List ℕ → List Piece → ReportTree → List FindingTree
report_findings file ps (OfFunctions fs) = functions_findings ps 0 fs
report_findings file ps (records.OfRefused r) = refused_finding file ps r ∷ []
