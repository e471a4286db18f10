-- Differences one after another: of lists joined end to end, and as a loop goes through them.
use Rattle.std.proofs.Common.{◌≡◌, ℕ, ◌+◌, ◌<◌, ◌≤◌, List, [], ◌∷◌, ◌++◌, length, take, drop, get_or, Bool, false, IsTrue, Some, refl, sym, ap, subst, ◌∙◌}
use Rattle.std.specs.List.{fold}
use Rattle.std.specs.Option.{option_map}
use Rattle.std.proofs.lemmas.List.{drop_more, take_more, take_all, take-append-drop}
use Rattle.std.proofs.lemmas.List.Sums.{fold-append}
use Rattle.std.proofs.lemmas.Option.{slice_get_read}
use Rattle.sig_diff.specs.Replaying.{AreTaken, StaysWithin, IsFirstRefused}

module _ {Content Diff : Type 0} (takes : Diff → Content → Bool) (after : Content → Diff → Content) where
  -- differences that are taken, and then others that are
  pub are_taken_append : (content : Content) (diffs more : List Diff) → AreTaken takes after content diffs → AreTaken takes after (fold after content diffs) more → AreTaken takes after content (diffs ++ more)
  are_taken_append content [] more first then = then
  are_taken_append content (diff ∷ diffs) more first then = (first.0, are_taken_append (after content diff) diffs more first.1 then)

  pub are_taken_front : (content : Content) (diffs more : List Diff) → AreTaken takes after content (diffs ++ more) → AreTaken takes after content diffs
  are_taken_front content [] more all = tt
  are_taken_front content (diff ∷ diffs) more all = (all.0, are_taken_front (after content diff) diffs more all.1)

  pub are_taken_back : (content : Content) (diffs more : List Diff) → AreTaken takes after content (diffs ++ more) → AreTaken takes after (fold after content diffs) more
  are_taken_back content [] more all = all
  are_taken_back content (diff ∷ diffs) more all = are_taken_back (after content diff) diffs more all.1

  module _ (size : Content → ℕ) (most : ℕ) (start : Content) (diffs : List Diff) where
    -- the differences before a place were all taken and gave the content, and the others may follow
    pub record Followed (content : Content) (place : ℕ) : Type 0 where
      pub taken : AreTaken takes after start (take place diffs)
      pub is : fold after start (take place diffs) ≡ content
      pub within : size content ≤ most
      pub rest : StaysWithin takes after size most content (drop place diffs)

    pub followed_none : size start ≤ most → StaysWithin takes after size most start diffs → Followed start 0
    followed_none within rest = record { taken = tt; is = refl; within = within; rest = rest }

    -- one more difference is taken
    pub followed_more : (content : Content) (place : ℕ) (diff : Diff) → place < length diffs → diff ≡ get_or diffs place diff → Followed content place → IsTrue (takes diff content) → Followed (after content diff) (place + 1)
    followed_more content place diff within read so_far takes_it =
        let left : drop place diffs ≡ diff ∷ drop (place + 1) diffs = drop_more diffs place diff within ∙ ap (λ d. d ∷ drop (place + 1) diffs) (sym read) in
        let done : take (place + 1) diffs ≡ take place diffs ++ diff ∷ [] = take_more diffs place diff within ∙ ap (λ d. take place diffs ++ d ∷ []) (sym read) in
        let stays = subst (StaysWithin takes after size most content) left so_far.rest takes_it in
        record {
          taken = subst (AreTaken takes after start) (sym done) (are_taken_append start (take place diffs) (diff ∷ []) so_far.taken (subst (λ c. IsTrue (takes diff c)) (sym so_far.is) takes_it, tt));
          is = ap (fold after start) done ∙ fold-append after start (take place diffs) (diff ∷ []) ∙ ap (λ c. after c diff) so_far.is;
          within = stays.0;
          rest = stays.1;
        }

    -- the next one isn't
    pub followed_until : (content : Content) (place : ℕ) (diff : Diff) → place < length diffs → diff ≡ get_or diffs place diff → Followed content place → takes diff content ≡ false → IsFirstRefused takes after size start diffs place (size content)
    followed_until content place diff within read so_far refuses = record {
      before = so_far.taken;
      refused = ap (option_map (λ d. takes d (fold after start (take place diffs)))) (slice_get_read diffs (length diffs) place diff refl within read) ∙ ap (λ c. Some (takes diff c)) so_far.is ∙ ap Some refuses;
      there = ap size so_far.is;
    }

    -- all were taken
    pub followed_all : (content : Content) (place : ℕ) → length diffs ≤ place → Followed content place → AreTaken takes after start diffs × (fold after start diffs ≡ content)
    followed_all content place all so_far =
        let whole = take_all place diffs all in
        (subst (AreTaken takes after start) whole so_far.taken, ap (fold after start) (sym whole) ∙ so_far.is)

-- where all are taken, the next one is, the content after it isn't too large, and the loop goes on from there
pub followed_next : {Content Diff : Type 0} {takes : Diff → Content → Bool} {after : Content → Diff → Content} {size : Content → ℕ} {most : ℕ} {start content : Content} {diffs : List Diff} {place : ℕ} {diff : Diff} →
    Followed takes after size most start diffs content place → place < length diffs → diff ≡ get_or diffs place diff → AreTaken takes after start diffs →
    IsTrue (takes diff content) × (size (after content diff) ≤ most) × Followed takes after size most start diffs (after content diff) (place + 1)
followed_next {takes = takes} {after = after} {size = size} {most = most} {start = start} {content = content} {diffs = diffs} {place = place} {diff = diff} so_far within read all =
    let left : drop place diffs ≡ diff ∷ drop (place + 1) diffs = drop_more diffs place diff within ∙ ap (λ d. d ∷ drop (place + 1) diffs) (sym read) in
    let parts = subst (AreTaken takes after start) (sym (take-append-drop place diffs)) all in
    let taken = subst (λ c. AreTaken takes after c (drop place diffs)) so_far.is (are_taken_back takes after start (take place diffs) (drop place diffs) parts) in
    let takes_it = (subst (AreTaken takes after content) left taken).0 in
    (takes_it, (subst (StaysWithin takes after size most content) left so_far.rest takes_it).0, followed_more takes after size most start diffs content place diff within read so_far takes_it)

pub ruleset replay_steps = (followed_none, followed_more, followed_until, followed_all)
