-- The writers of a source are those with edits on it.
use Rattle.std.proofs.Common.{◌≡◌, inl, inr, ◌∙◌, ℕ, zero, suc, ◌+◌, ◌<◌, ◌≤◌, ◌==◌, List, [], ◌∷◌, ◌++◌, length, get_or, All, cond, Bool, true, false, not, refl, sym, ap, arith}
use Rattle.std.proofs.lemmas.Bool.{cases_lt, eq-eqb, eqb-true, ne_eqb}
use Rattle.std.proofs.lemmas.List.{append-nil, get_or_past}
use Rattle.std.proofs.lemmas.List.Elements.{All-head, All-tail}
use Rattle.sig_hist.specs.Changes.{IsInOrder}
use Rattle.sig_hist.specs.Plain.{no_source}
use Rattle.sig_hist.specs.Sources.{allowed, is_among, writers_of}
use Rattle.sig_hist.specs.declared.plans.Allowance.{Allowance}
use Rattle.sig_hist.specs.declared.plans.SourcePlan.{SourcePlan}
use Rattle.sig_report.proofs.Writers.{plan_at}
use Rattle.sig_report.specs.Lawful.{no_writer}
use Rattle.sig_report.specs.Playing.{edits_of}
use Rattle.sig_script.specs.Plans.{allowances, plans_of, share_plans, source_plans}
use Rattle.sig_script.specs.Rooms.{edits_on, source_rooms}
use Rattle.sig_script.specs.Starts.{StartsInOrder}
use Rattle.sig_script.specs.declared.types.Script.{Script}
use Rattle.sig_script.specs.declared.types.ShareDef.{ShareDef}
use Rattle.sig_script.specs.declared.types.SourceDef.{SourceDef}
use Rattle.sig_script.specs.declared.types.WriterDef.{WriterDef}

-- by whether the first writer has no edits: another is among the writers where it is among the rest
another : (writer : ℕ) (first : Allowance) (rest : List Allowance) (none : Bool) → (first.writer == writer) ≡ false → is_among writer (writers_of (cond none rest (first ∷ rest))) ≡ is_among writer (writers_of rest)
another writer first rest true other = refl
another writer first rest false other = rw other refl

-- and the first one where it has some
the_first : (writer : ℕ) (first : Allowance) (rest : List Allowance) (none : Bool) → (first.writer == writer) ≡ true → is_among writer (writers_of rest) ≡ false → is_among writer (writers_of (cond none rest (first ∷ rest))) ≡ not none
the_first writer first rest true same once = once
the_first writer first rest false same once = rw same refl

module _ (source writer : ℕ) where
  before_all : (number : ℕ) (writers : List WriterDef) → writer < number → is_among writer (writers_of (allowances source number writers)) ≡ false
  before_all number [] low = refl
  before_all number (first ∷ writers) low =
      another writer (record { writer = number; edits = length (edits_on source first.edits) }) (allowances source (number + 1) writers) (length (edits_on source first.edits) == 0) (ne_eqb number writer (λ same. omega arith))
      ∙ before_all (number + 1) writers (omega arith)

  among_from : (number place : ℕ) (writers : List WriterDef) → writer ≡ number + place →
      is_among writer (writers_of (allowances source number writers)) ≡ not (length (edits_on source (get_or writers place no_writer).edits) == 0)
  among_from number place [] is = refl
  among_from number zero (first ∷ writers) is =
      the_first writer (record { writer = number; edits = length (edits_on source first.edits) }) (allowances source (number + 1) writers) (length (edits_on source first.edits) == 0) (eq-eqb number writer (omega arith))
      (before_all (number + 1) writers (omega arith))
  among_from number (suc place) (first ∷ writers) is =
      another writer (record { writer = number; edits = length (edits_on source first.edits) }) (allowances source (number + 1) writers) (length (edits_on source first.edits) == 0) (ne_eqb number writer (λ same. omega arith))
      ∙ among_from (number + 1) place writers (omega arith)

-- by whether the first writer has no edits: what another may make, and what the first one may
allowed_another : (writer : ℕ) (first : Allowance) (rest : List Allowance) (none : Bool) → (first.writer == writer) ≡ false → allowed writer (cond none rest (first ∷ rest)) ≡ allowed writer rest
allowed_another writer first rest true other = refl
allowed_another writer first rest false other = rw other refl

allowed_first : (writer : ℕ) (first : Allowance) (rest : List Allowance) (none : Bool) → (first.writer == writer) ≡ true → (first.edits == 0) ≡ none → allowed writer rest ≡ 0 → allowed writer (cond none rest (first ∷ rest)) ≡ first.edits
allowed_first writer first rest true same empty once = once ∙ sym (eqb-true first.edits 0 empty)
allowed_first writer first rest false same some once = rw same refl

module _ (source writer : ℕ) where
  none_allowed : (number : ℕ) (writers : List WriterDef) → writer < number → allowed writer (allowances source number writers) ≡ 0
  none_allowed number [] low = refl
  none_allowed number (first ∷ writers) low =
      allowed_another writer (record { writer = number; edits = length (edits_on source first.edits) }) (allowances source (number + 1) writers) (length (edits_on source first.edits) == 0) (ne_eqb number writer (λ same. omega arith))
      ∙ none_allowed (number + 1) writers (omega arith)

  allowed_from : (number place : ℕ) (writers : List WriterDef) → writer ≡ number + place → allowed writer (allowances source number writers) ≡ length (edits_on source (get_or writers place no_writer).edits)
  allowed_from number place [] is = refl
  allowed_from number zero (first ∷ writers) is =
      allowed_first writer (record { writer = number; edits = length (edits_on source first.edits) }) (allowances source (number + 1) writers) (length (edits_on source first.edits) == 0) (eq-eqb number writer (omega arith)) refl
      (none_allowed (number + 1) writers (omega arith))
  allowed_from number (suc place) (first ∷ writers) is =
      allowed_another writer (record { writer = number; edits = length (edits_on source first.edits) }) (allowances source (number + 1) writers) (length (edits_on source first.edits) == 0) (ne_eqb number writer (λ same. omega arith))
      ∙ allowed_from (number + 1) place writers (omega arith)

length_plans : (writers : List WriterDef) (number : ℕ) (sources : List SourceDef) → length (source_plans writers number sources) ≡ length sources
length_plans writers number [] = refl
length_plans writers number (source ∷ sources) = ap suc (length_plans writers (number + 1) sources)

allow_at : (writers : List WriterDef) (number place : ℕ) (sources : List SourceDef) → place < length sources → (get_or (source_plans writers number sources) place no_source.plan).allow ≡ allowances (number + place) 0 writers
allow_at writers number place [] within = absurd (omega arith)
allow_at writers number zero (source ∷ sources) within = let same : number ≡ number + 0 = omega arith in ap (λ (at : ℕ). allowances at 0 writers) same
allow_at writers number (suc place) (source ∷ sources) within =
    let same : number + 1 + place ≡ number + suc place = omega arith in allow_at writers (number + 1) place sources (omega arith) ∙ ap (λ (at : ℕ). allowances at 0 writers) same

abbrev StartInOrder : List SourcePlan → Type 0
StartInOrder plans = (place : ℕ) → IsInOrder (get_or plans place no_source.plan).start

-- a share's cell is in order
shares_in_order : (caller : ℕ) (rooms : List ℕ) (shares : List ShareDef) → StartInOrder (share_plans caller rooms shares)
shares_in_order caller rooms [] place = tt
shares_in_order caller rooms (share ∷ shares) zero = tt
shares_in_order caller rooms (share ∷ shares) (suc place) = shares_in_order (caller + 1) _ shares place

sources_in_order : (writers : List WriterDef) (number : ℕ) (sources : List SourceDef) (later : List SourcePlan) → All (λ (source : SourceDef). IsInOrder source.start) sources → StartInOrder later → StartInOrder (source_plans writers number sources ++ later)
sources_in_order writers number [] later in_order rest place = rest place
sources_in_order writers number (source ∷ sources) later in_order rest zero = All-head (λ (source : SourceDef). IsInOrder source.start) source sources in_order
sources_in_order writers number (source ∷ sources) later in_order rest (suc place) = sources_in_order writers (number + 1) sources later (All-tail (λ (source : SourceDef). IsInOrder source.start) source sources in_order) rest place

pub plan_in_order : (script : Script) → StartsInOrder script → (number : ℕ) → IsInOrder (plan_at script number).start
plan_in_order script in_order = sources_in_order script.writers 0 script.sources _ in_order (shares_in_order _ _ script.shares)

pub no_edits_past : (script : Script) (writer : ℕ) → length script.writers ≤ writer → edits_of script writer ≡ []
no_edits_past script writer past = ap (λ (one : WriterDef). one.edits) (get_or_past script.writers writer no_writer past)

module _ (script : Script) (unshared : script.shares ≡ []) where
  pub plans_are : plans_of script ≡ source_plans script.writers 0 script.sources
  plans_are =
      let plans : List SourcePlan = source_plans script.writers 0 script.sources in
      ap (λ (shares : List ShareDef). plans ++ share_plans (length script.writers) (source_rooms script.writers 0 script.sources) shares) unshared ∙ append-nil plans

  pub length_plans_of : length (plans_of script) ≡ length script.sources
  length_plans_of = ap length plans_are ∙ length_plans script.writers 0 script.sources

  allow_is : (number : ℕ) → number < length script.sources → (plan_at script number).allow ≡ allowances number 0 script.writers
  allow_is number within =
      ap (λ (plans : List SourcePlan). (get_or plans number no_source.plan).allow) plans_are
      ∙ allow_at script.writers 0 number script.sources within
      ∙ (let same : 0 + number ≡ number = omega arith in ap (λ (at : ℕ). allowances at 0 script.writers) same)

  pub among_at : (number writer : ℕ) → number < length script.sources → is_among writer (writers_of (plan_at script number).allow) ≡ not (length (edits_on number (edits_of script writer)) == 0)
  among_at number writer within = rw (allow_is number within) (among_from number writer 0 writer script.writers (omega arith))

  -- a writer may make all its edits on the source
  pub allowed_at : (number writer : ℕ) → number < length script.sources → allowed writer (plan_at script number).allow ≡ length (edits_on number (edits_of script writer))
  allowed_at number writer within = rw (allow_is number within) (allowed_from number writer 0 writer script.writers (omega arith))

  nobody_past : (number writer : ℕ) → length script.sources ≤ number → is_among writer (writers_of (plan_at script number).allow) ≡ false
  nobody_past number writer past =
      let none : plan_at script number ≡ no_source.plan = get_or_past (plans_of script) number no_source.plan (omega (arith, length_plans_of)) in rw none refl

  -- a number that no writer has is among no source's writers
  pub stranger : (number writer : ℕ) → length script.writers ≤ writer → is_among writer (writers_of (plan_at script number).allow) ≡ false
  stranger number writer past = elim (cases_lt number (length script.sources)) as (λ case. is_among writer (writers_of (plan_at script number).allow) ≡ false) [
    | inl within ↦ among_at number writer within ∙ rw (no_edits_past script writer past) refl
    | inr none ↦ nobody_past number writer none
  ]

  never : {P : Type 0} (number writer : ℕ) → is_among writer (writers_of (plan_at script number).allow) ≡ true → is_among writer (writers_of (plan_at script number).allow) ≡ false → P
  never number writer among stranger = absurd (let contrary : true ≡ false = sym among ∙ stranger in cc)

  pub number_within : (number writer : ℕ) → is_among writer (writers_of (plan_at script number).allow) ≡ true → number < length script.sources
  number_within number writer among = elim (cases_lt number (length script.sources)) as (λ case. number < length script.sources) [
    | inl within ↦ within
    | inr none ↦ never number writer among (nobody_past number writer none)
  ]

  pub writer_within : (number writer : ℕ) → is_among writer (writers_of (plan_at script number).allow) ≡ true → writer < length script.writers
  writer_within number writer among = elim (cases_lt writer (length script.writers)) as (λ case. writer < length script.writers) [
    | inl within ↦ within
    | inr past ↦ never number writer among (stranger number writer past)
  ]
