-- Lists of things that are read one after the other.
use Rattle.std.proofs.Common.{◌≡◌, ◌∙◌, ap, sym, refl, ℕ, ◌+◌, ◌<◌, ◌≤◌, List, [], ◌∷◌, ◌++◌, length, drop, get_or, map, Option, Some, None, option_map, option_and_then, append_assoc, Result, Err}
use Rattle.std.proofs.lemmas.List.{append-nil, drop_more, drop_all, map_push}
use Rattle.serde_json.specs.Data.{Data}
use Rattle.serde_json.specs.View.{view, items_of, items_view}
use Rattle.serde_json.specs.declared.value.Value.{Value}
use Rattle.explain_report.specs.Reading.{all_of, Reads}
use Rattle.explain_report.specs.declared.records.ReadFault.{ReadFault}
use Rattle.explain_report.specs.declared.records.ReadFault.TheVariants.{NoReport, NoMemory}

-- so many items of a list were read to these things
abbrev pub IsReadTo : {T A : Type 0} → (T → A) → (Data → Option A) → List Value → ℕ → List T → Type 0
IsReadTo seen one values i done =
    option_map (λ rest. map seen done ++ rest) (all_of one (items_of (map view (drop i values)))) ≡ all_of one (items_view values)

same_option : {A : Type 0} (o : Option (List A)) → option_map (λ rest. rest) o ≡ o
same_option None = refl
same_option (Some x) = refl

pub read_begun : {T A : Type 0} (seen : T → A) (one : Data → Option A) (values : List Value) (done : List T) → done ≡ [] → IsReadTo seen one values 0 done
read_begun seen one values done e =
    ap (λ d. option_map (λ rest. map seen d ++ rest) (all_of one (items_view values))) e ∙ same_option (all_of one (items_view values))

pushed : {T A : Type 0} (seen : T → A) (done : List T) (x : T) (o : Option (List A)) →
    option_map (λ rest. map seen (done ++ x ∷ []) ++ rest) o ≡ option_map (λ rest. map seen done ++ rest) (option_map (λ rest. seen x ∷ rest) o)
pushed seen done x None = refl
pushed seen done x (Some rest) =
    ap (λ l. Some (l ++ rest)) (map_push seen done x) ∙ ap Some (append_assoc (map seen done) (seen x ∷ []) rest)

next_is : {A : Type 0} (one : Data → Option A) (values : List Value) (i : ℕ) (v : Value) → i < length values → v ≡ get_or values i v →
    all_of one (items_of (map view (drop i values)))
    ≡ option_and_then (λ a. option_map (λ rest. a ∷ rest) (all_of one (items_of (map view (drop (i + 1) values))))) (one (view v))
next_is one values i v lt e =
    ap (λ l. all_of one (items_of (map view l))) (drop_more values i v lt)
    ∙ ap (λ w. option_and_then (λ a. option_map (λ rest. a ∷ rest) (all_of one (items_of (map view (drop (i + 1) values))))) (one (view w))) (sym e)

-- one more item
pub read_more : {T A : Type 0} (seen : T → A) (one : Data → Option A) (values : List Value) (i : ℕ) (done grown : List T) (x : T) (v : Value) →
    i < length values → v ≡ get_or values i v → one (view v) ≡ Some (seen x) → grown ≡ done ++ x ∷ [] → IsReadTo seen one values i done →
    IsReadTo seen one values (i + 1) grown
read_more seen one values i done grown x v lt e is g read =
    ap (λ l. option_map (λ rest. map seen l ++ rest) (all_of one (items_of (map view (drop (i + 1) values))))) g
    ∙ pushed seen done x (all_of one (items_of (map view (drop (i + 1) values))))
    ∙ ap (λ o. option_map (λ rest. map seen done ++ rest)
    (option_and_then (λ a. option_map (λ rest. a ∷ rest) (all_of one (items_of (map view (drop (i + 1) values))))) o)) (sym is)
    ∙ ap (option_map (λ rest. map seen done ++ rest)) (sym (next_is one values i v lt e))
    ∙ read

-- an item that is no such thing
pub read_fails : {T A : Type 0} (seen : T → A) (one : Data → Option A) (values : List Value) (i : ℕ) (done : List T) (v : Value) →
    i < length values → v ≡ get_or values i v → one (view v) ≡ None → IsReadTo seen one values i done → all_of one (items_view values) ≡ None
read_fails seen one values i done v lt e is read =
    sym read ∙ ap (option_map (λ rest. map seen done ++ rest)) (next_is one values i v lt e
    ∙ ap (option_and_then (λ a. option_map (λ rest. a ∷ rest) (all_of one (items_of (map view (drop (i + 1) values)))))) is)

-- all items
pub read_ended : {T A : Type 0} (seen : T → A) (one : Data → Option A) (values : List Value) (i : ℕ) (done : List T) →
    length values ≤ i → IsReadTo seen one values i done → all_of one (items_view values) ≡ Some (map seen done)
read_ended seen one values i done past read =
    sym read ∙ ap (λ l. option_map (λ rest. map seen done ++ rest) (all_of one (items_of (map view l)))) (drop_all i values past)
    ∙ ap Some (append-nil (map seen done))

-- a fault of a part is one of the whole
pub fault_of_part : {S T A B : Type 0} (seen : S → A) (whole_seen : T → B) (part : Option A) (whole : Option B) (fault : ReadFault) →
    (part ≡ None → whole ≡ None) → Reads seen part (Err fault) → Reads whole_seen whole (Err fault)
fault_of_part seen whole_seen part whole NoReport lost none = lost none
fault_of_part seen whole_seen part whole NoMemory lost none = tt
