-- What a poll answers, and what it leaves.
use Rattle.sig_walk.specs.Waiting.{HasPolled}
use Rattle.std.specs.Prelude.{◌≡◌, ℕ, ◌+◌, ◌≤◌, ◌||◌, length, slice_index, Bool, true, false, Option, Some}
use Rattle.sig_hist.specs.Ports.{PortState, raised}
use Rattle.sig_hist.specs.declared.ports.Condition.TheVariants.{Waiting}
use Rattle.sig_rows.specs.SoundRows.{IsFirstRow, IsNextRow, IsShownBy, Seen, is_awaited, nothing_seen, seen_after, tags_of}
use Rattle.sig_view.specs.Tasks.{IsReady, contents_of, has_row, is_ended, is_failed, is_following, is_lacking, positions_of, sources_of, tags_at, view_of}
use Rattle.sig_walk.specs.Walking.{HasNews, IsFresh, first_word, is_seen_closed, met_since}
use Rattle.sig_rows.specs.declared.rows.Row.{Row}
use Rattle.sig_view.specs.declared.task.Polled.{Polled}
use Rattle.sig_view.specs.declared.task.Polled.TheVariants as polled
use Rattle.sig_view.specs.declared.task.ViewTask.{ViewTask}

pub record IsSameTask (old new : ViewTask) : Type 0 where
  pub view : new.view ≡ old.view
  pub caps : new.caps.value ≡ old.caps.value
  pub first : new.walk.first ≡ old.walk.first

-- ---- answers

module _ (s t : PortState) (old new : ViewTask) where
  abbrev pub IsAwaited : ℕ → Type 0
  IsAwaited leaf = is_awaited (view_of new) (sources_of t new) (positions_of new) leaf ≡ true

  -- no leaf of a view with a row has gone on, and each awaited one has looked
  pub record HasStayed : Type 0 where
    pub row : has_row old ≡ true
    pub stays : positions_of new ≡ positions_of old
    pub tags : is_following new ≡ true → tags_at new ≡ tags_at old
    pub fresh : (leaf : ℕ) → IsAwaited leaf → IsFresh s t new.walk leaf

  -- before the first row each leaf is fetched that was lacking, and the others stay
  pub record HasFetched : Type 0 where
    pub no_row : has_row old ≡ false
    pub stays : (leaf : ℕ) → is_lacking old.stage leaf ≡ false → slice_index (positions_of new) leaf ≡ slice_index (positions_of old) leaf
    pub fresh : (leaf : ℕ) → is_lacking old.stage leaf ≡ true → IsFresh s t new.walk leaf

  -- a row after the first: sound, whatever was seen that is the view's content before it, with the tags that the task has; and the
  -- tags after it are the task's
  pub record IsLaterRow (row : Row) : Type 0 where
    pub sound : (seen : Seen) → IsShownBy (view_of old) (contents_of s old) seen → tags_of seen ≡ tags_at old → IsNextRow (view_of old) (sources_of t new) (positions_of old) seen row.at row.body
    pub tags : (seen : Seen) → IsShownBy (view_of old) (contents_of s old) seen → tags_of seen ≡ tags_at old → tags_of (seen_after seen row.body) ≡ tags_at new
    pub fresh : (leaf : ℕ) → IsAwaited leaf → IsFresh s t new.walk leaf

  -- by whether a row was given
  abbrev pub IsRow : Bool → Row → Type 0
  IsRow false row = IsFirstRow (view_of old) (sources_of t new) row × HasFetched × (tags_of (seen_after (nothing_seen (view_of old)) row.body) ≡ tags_at new)
  IsRow true row = IsLaterRow row

  -- the leaf is at the end of its source's history
  pub record IsAtEnd (leaf : ℕ) : Type 0 where
    pub position : slice_index (positions_of new) leaf ≡ length (t.seen (t.source (new.walk.first + leaf)))
    pub closed : is_seen_closed t (new.walk.first + leaf) ≡ true

  -- the leaf's bell was set, and after that a look showed the leaf's position, and no end
  pub record IsTold (leaf : ℕ) : Type 0 where
    pub condition : t.condition (new.walk.first + leaf) ≡ Waiting (record { count = slice_index (positions_of new) leaf; closed = false })
    pub armed : raised (s.arms (new.walk.first + leaf)) ≤ t.arms (new.walk.first + leaf)

  -- by whether its source is closed
  abbrev pub IsAtRest : Bool → ℕ → Type 0
  IsAtRest true leaf = IsAtEnd leaf
  IsAtRest false leaf = IsTold leaf

  pub record IsPending : Type 0 where
    pub stayed : HasStayed
    pub rests : (leaf : ℕ) → IsAwaited leaf → IsAtRest (is_seen_closed t (new.walk.first + leaf)) leaf
    pub some : (leaf : ℕ) × IsAwaited leaf × (is_seen_closed t (new.walk.first + leaf) ≡ false)

  pub record IsEnd : Type 0 where
    pub stayed : HasStayed
    pub ended : (leaf : ℕ) → IsAwaited leaf → IsAtEnd leaf

  -- a poll that found a held word: no leaf has gone on, or the first row lacks a leaf
  abbrev pub IsHeldUp : Bool → Type 0
  IsHeldUp true = HasStayed
  IsHeldUp false = HasFetched × ((leaf : ℕ) × (is_lacking new.stage leaf ≡ true))

  module _ {T : Type 0} (told : T) where
    pub record IsBatch (row : Row) (token : T) (word : Option ℕ) : Type 0 where
      pub at : row.at ≡ positions_of new
      pub sound : IsRow (has_row old) row
      pub same_token : token ≡ told
      pub first_held : word ≡ first_word (met_since s t)

    pub record IsAgain (word : ℕ) (token : T) : Type 0 where
      pub held_up : IsHeldUp (has_row old)
      pub same_token : token ≡ told
      pub first_held : Some word ≡ first_word (met_since s t)

    abbrev pub IsAnswer : Polled T → Type 0
    IsAnswer (polled.Batch row token held) = IsBatch row token held
    IsAnswer polled.Pending = IsPending
    IsAnswer (polled.Again word token) = IsAgain word token
    IsAnswer polled.Ended = IsEnd
    IsAnswer polled.NoMemory = has_row old ≡ true → HasNews t old.walk
    IsAnswer polled.Failed = (t ≡ s) × (new ≡ old)

-- ---- which answers come when

abbrev pub is_batch : {T : Type 0} → Polled T → Bool
is_batch (polled.Batch row token held) = true
is_batch answer = false

abbrev pub is_pending : {T : Type 0} → Polled T → Bool
is_pending polled.Pending = true
is_pending answer = false

abbrev pub is_end : {T : Type 0} → Polled T → Bool
is_end polled.Ended = true
is_end answer = false

abbrev pub is_no_memory : {T : Type 0} → Polled T → Bool
is_no_memory polled.NoMemory = true
is_no_memory answer = false

abbrev pub is_refusal : {T : Type 0} → Polled T → Bool
is_refusal polled.Failed = true
is_refusal answer = false

-- a poll fails where an earlier one found no memory, and nowhere else
pub record IsNext {T : Type 0} (old new : ViewTask) (answer : Polled T) : Type 0 where
  pub refused : is_refusal answer ≡ is_failed old
  pub failed : is_failed new ≡ (is_failed old || is_no_memory answer)
  pub ended : is_ended new ≡ is_end answer
  pub row : has_row new ≡ (has_row old || is_batch answer)

-- all that a poll promises
pub record IsPoll {T : Type 0} (s t : PortState) (old new : ViewTask) (told : T) (answer : Polled T) : Type 0 where
  pub ready : IsReady t new
  pub same : IsSameTask old new
  pub polled : HasPolled s t old.walk (is_pending answer)
  pub next : IsNext old new answer
  pub answer_is : IsAnswer s t old new told answer
