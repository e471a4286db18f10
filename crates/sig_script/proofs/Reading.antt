-- A loop over a list's values, each of which is read by f: what was read so far, and what is left.
use Rattle.std.proofs.Common.{◌≡◌, ℕ, ◌+◌, ◌<◌, ◌≤◌, List, [], ◌∷◌, ◌++◌, length, get_or, drop, Option, None, Some, option_map, refl, sym, ap, ◌∙◌, append_assoc, add-one, drop-cons, arith, true, nat_le}
use Rattle.std.proofs.lemmas.Bool.Decides.{nat_tests}
use Rattle.std.proofs.lemmas.List.{append-nil, length-append, drop_all}
use Rattle.serde_json.specs.Data.{Data}
use Rattle.serde_json.specs.View.{view, items_view}
use Rattle.serde_json.specs.declared.value.Value.{Value}
use Rattle.sig_script.proofs.Counts.{item_count_seen}
use Rattle.sig_script.specs.Fields.{each_of, item_count}

pub record ReadSoFar {T : Type 0} (f : Data → Option T) (values : List Value) (index : ℕ) (done : List T) : Type 0 where
  pub is : each_of f (items_view values) ≡ option_map (λ rest. done ++ rest) (each_of f (items_view (drop index values)))
  pub count : length done ≡ index

same : {T : Type 0} (rest : Option (List T)) → rest ≡ option_map (λ rest. [] ++ rest) rest
same None = refl
same (Some rest) = refl

pub begins : {T : Type 0} (f : Data → Option T) (values : List Value) → ReadSoFar f values 0 []
begins f values = record { is = same _; count = refl }

joined : {T : Type 0} (done : List T) (x : T) (rest : Option (List T))
    → option_map (λ rest. done ++ rest) (option_map (λ rest. x ∷ rest) rest) ≡ option_map (λ rest. (done ++ x ∷ []) ++ rest) rest
joined done x None = refl
joined done x (Some rest) = ap Some (sym (append_assoc done (x ∷ []) rest))

pub next : (values : List Value) (index : ℕ) (value : Value) → index < length values → value ≡ get_or values index value → drop index values ≡ value ∷ drop (index + 1) values
next values index value below here = drop-cons values index value below ∙ rw (← here, add-one)

pub goes_on : {T : Type 0} (f : Data → Option T) (values : List Value) (index : ℕ) (done : List T) (value : Value) (x : T)
    → ReadSoFar f values index done → index < length values → value ≡ get_or values index value → f (view value) ≡ Some x → ReadSoFar f values (index + 1) (done ++ x ∷ [])
goes_on f values index done value x so_far below here read = record { is = so_far.is ∙ rw (next values index value below here, read) (joined done x _); count = rw (length-append, so_far.count) refl }

pub stops : {T : Type 0} (f : Data → Option T) (values : List Value) (index : ℕ) (done : List T) (value : Value)
    → ReadSoFar f values index done → index < length values → value ≡ get_or values index value → f (view value) ≡ None → each_of f (items_view values) ≡ None
stops f values index done value so_far below here unread = so_far.is ∙ rw (next values index value below here, unread)

pub ends : {T : Type 0} (f : Data → Option T) (values : List Value) (index : ℕ) (done : List T)
    → ReadSoFar f values index done → length values ≤ index → each_of f (items_view values) ≡ Some done
ends f values index done so_far past = so_far.is ∙ rw (drop_all index values past, append-nil)

pub ruleset reading = (begins, goes_on, stops, ends)

-- no more is read than the list's limit
pub few : {T : Type 0} (f : Data → Option T) (values : List Value) (index : ℕ) (done : List T) (most : ℕ)
    → ReadSoFar f values index done → index ≤ length values → nat_le (item_count (items_view values)) most ≡ true → length done ≤ most
few f values index done most so_far within limit =
    let read : length done ≡ index = so_far.count in
    let count : item_count (items_view values) ≡ length values = item_count_seen values in
    grind (arith, nat_tests)
