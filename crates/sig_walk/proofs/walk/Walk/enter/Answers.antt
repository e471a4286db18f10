use Rattle.std.proofs.Common.{slice_set, refl, ◌≡◌, ◌≢◌, ◌∙◌, ℕ, ◌+◌, ◌<◌, length, slice_index, slice_index_or, Some, ap, arith}
use Rattle.std.proofs.lemmas.Grind.{get_or_default_zero}
use Rattle.std.proofs.lemmas.List.{length-set}
use Rattle.sig_hist.specs.Ports.{IsFetch, IsSight, PortState, looked}
use Rattle.sig_hist.specs.declared.ports.Fetched.{Fetched}
use Rattle.sig_hist.specs.declared.ports.Version.{Version}
use Rattle.sig_walk.proofs.Arriving.{HasFetched, arrived_enters, arrived_walked, counted, has_fetched, held_up_walked, looked_at, none_met, stayed_walked, vain_looked, vain_news}
use Rattle.sig_walk.proofs.Trying.{gone_set, gone_stays}
use Rattle.sig_walk.specs.Walking.{CanWalk, Progress}
use Rattle.sig_walk.proofs.walk.Walk.enter.Goals as goal

-- the leaf's number at the port, and the position that was read
same_number : (inside old : Progress) (leaf : ℕ) → inside ≡ old → inside.first + leaf ≡ old.first + leaf
same_number inside old leaf is = ap (λ (walk : Progress). walk.first + leaf) is

same_position : (inside old : Progress) (leaf position : ℕ) → inside ≡ old → leaf < length old.positions → position ≡ slice_index_or inside.positions leaf position → position ≡ slice_index old.positions leaf
same_position inside old leaf position is below read = rw is at read ∙ get_or_default_zero old.positions leaf position below

pub returns-then-version-position-clause-gone : goal.returns-then-version-position-clause-gone
returns-then-version-position-clause-gone g c =
    let s : PortState = g.P.Port.state c.args.port.now in
    let u : PortState = g.P.Port.state c.look-version.new.self in
    let number = same_number _ _ c.args.leaf c.self.view_is in
    let looked = looked_at s u c.args.self.now c.args.leaf c.requires.can c.requires.leaf c.look-version.result (rw number at c.look-version.ensures.sight) (rw number at c.look-version.ensures.state) in
    rw c.stay.ensures (gone_stays s u c.args.self.now _ c.requires.can c.look-version.ensures.sound looked refl refl (length-set c.args.self.now.marks c.args.leaf _))

pub returns-then-version-position-clause-walked : goal.returns-then-version-position-clause-walked
returns-then-version-position-clause-walked g c =
    let s : PortState = g.P.Port.state c.args.port.now in
    let number = same_number _ _ c.args.leaf c.self.view_is in
    let position = same_position _ _ c.args.leaf _ c.self.view_is c.requires.leaf c.index-position.ensures in
    let state = rw number at c.look-version.ensures.state in
    rw (c.stay.ensures, state) (stayed_walked s c.args.self.now c.args.leaf c.requires.can c.requires.leaf c.look-version.result (rw number at c.look-version.ensures.sight) (c.if-version-position.true ∙ position))

pub fetch-requires-clause-from : goal.fetch-requires-clause-from
fetch-requires-clause-from g c =
    let s : PortState = g.P.Port.state c.args.port.now in
    let u : PortState = g.P.Port.state c.look-version.new.self in
    let number = same_number _ _ c.args.leaf c.self.view_is in
    let position = same_position _ _ c.args.leaf _ c.self.view_is c.requires.leaf c.index-position.ensures in
    let more = counted s u c.args.self.now c.args.leaf c.requires.can c.requires.leaf c.look-version.result (rw number at c.look-version.ensures.sight) (rw number at c.look-version.ensures.state) (rw position at c.if-version-position.false) in
    rw (number, position) (omega (arith, more))

-- what the fetch left, by the leaf's number at the port and the position that was read
fetched_is : (s u t : PortState) (inside old : Progress) (leaf position : ℕ) (version : Version) (fetched : Fetched) → inside ≡ old → CanWalk s old → leaf < length old.positions →
    position ≡ slice_index_or inside.positions leaf position → IsSight s (inside.first + leaf) version → u ≡ looked s (s.source (inside.first + leaf)) version → version.count ≢ position →
    IsFetch u t (inside.first + leaf) (Some position) fetched → HasFetched s t old leaf fetched
fetched_is s u t inside old leaf position version fetched is can below read sight state more fetch =
    let number = same_number inside old leaf is in
    let at = same_position inside old leaf position is below read in
    has_fetched s u old leaf can below version (rw number at sight) (rw number at state) t fetched (rw at at more) (rw (number, at) at fetch)

pub returns-in-Ok-clause-gone : goal.returns-in-Ok-clause-gone
returns-in-Ok-clause-gone g c =
    let s : PortState = g.P.Port.state c.args.port.now in
    let t : PortState = g.P.Port.state c.fetch.new.self in
    let fetched = fetched_is s _ t _ c.args.self.now c.args.leaf _ c.look-version.result c.in-Ok.fetched c.self.view_is c.requires.can c.requires.leaf c.index-position.ensures c.look-version.ensures.sight c.look-version.ensures.state
    c.if-version-position.false c.in-Ok.ensures.ok in
    rw c.arrive.ensures (gone_set s t c.args.self.now _ c.requires.can c.in-Ok.ensures.sound fetched.looked refl c.args.leaf (ap (slice_set c.args.self.now.positions c.args.leaf) fetched.count) (length-set c.args.self.now.marks c.args.leaf _))

pub returns-in-Ok-clause-walked : goal.returns-in-Ok-clause-walked
returns-in-Ok-clause-walked g c =
    let s : PortState = g.P.Port.state c.args.port.now in
    let t : PortState = g.P.Port.state c.fetch.new.self in
    let fetched = fetched_is s _ t _ c.args.self.now c.args.leaf _ c.look-version.result c.in-Ok.fetched c.self.view_is c.requires.can c.requires.leaf c.index-position.ensures c.look-version.ensures.sight c.look-version.ensures.state
    c.if-version-position.false c.in-Ok.ensures.ok in
    rw c.arrive.ensures (arrived_walked s c.args.self.now c.args.leaf c.requires.can c.requires.leaf t fetched.looked c.in-Ok.fetched.version fetched.met fetched.known fetched.more)

pub returns-in-Ok-clause-entering : goal.returns-in-Ok-clause-entering
returns-in-Ok-clause-entering g c =
    let s : PortState = g.P.Port.state c.args.port.now in
    let t : PortState = g.P.Port.state c.fetch.new.self in
    let fetched = fetched_is s _ t _ c.args.self.now c.args.leaf _ c.look-version.result c.in-Ok.fetched c.self.view_is c.requires.can c.requires.leaf c.index-position.ensures c.look-version.ensures.sight c.look-version.ensures.state
    c.if-version-position.false c.in-Ok.ensures.ok in
    rw c.arrive.ensures (arrived_enters t c.args.self.now c.args.leaf c.in-Ok.fetched.version c.in-Ok.fetched.entering c.requires.leaf fetched.count fetched.entering)

pub returns-in-Err-Again-clause-walked : goal.returns-in-Err-Again-clause-walked
returns-in-Err-Again-clause-walked g c =
    let s : PortState = g.P.Port.state c.args.port.now in
    let u : PortState = g.P.Port.state c.look-version.new.self in
    let number = same_number _ _ c.args.leaf c.self.view_is in
    let sight = rw number at c.look-version.ensures.sight in
    let state = rw number at c.look-version.ensures.state in
    let looked = looked_at s u c.args.self.now c.args.leaf c.requires.can c.requires.leaf c.look-version.result sight state in
    let met = none_met s u c.args.self.now c.args.leaf c.requires.can c.requires.leaf c.look-version.result sight state in
    let held = rw (number, c.in-Err-Again.field-0-is) at c.in-Err-Again.ensures.err in
    rw (c.meet.ensures, held) (held_up_walked s c.args.self.now c.args.leaf c.requires.can c.requires.leaf u c.in-Err-Again.word looked met)

pub returns-in-Err-NoMemory-clause-gone : goal.returns-in-Err-NoMemory-clause-gone
returns-in-Err-NoMemory-clause-gone g c =
    let s : PortState = g.P.Port.state c.args.port.now in
    let u : PortState = g.P.Port.state c.look-version.new.self in
    let t : PortState = g.P.Port.state c.fetch.new.self in
    let number = same_number _ _ c.args.leaf c.self.view_is in
    let looked = vain_looked s u c.args.self.now c.args.leaf c.requires.can c.requires.leaf c.look-version.result (rw number at c.look-version.ensures.sight) (rw number at c.look-version.ensures.state) t (rw (number, c.in-Err-NoMemory.field-0-is) at c.in-Err-NoMemory.ensures.err) in
    gone_stays s t c.args.self.now c.args.self.now c.requires.can c.in-Err-NoMemory.ensures.sound looked refl refl refl

pub returns-in-Err-NoMemory-clause-news : goal.returns-in-Err-NoMemory-clause-news
returns-in-Err-NoMemory-clause-news g c =
    let s : PortState = g.P.Port.state c.args.port.now in
    let u : PortState = g.P.Port.state c.look-version.new.self in
    let t : PortState = g.P.Port.state c.fetch.new.self in
    let number = same_number _ _ c.args.leaf c.self.view_is in
    let position = same_position _ _ c.args.leaf _ c.self.view_is c.requires.leaf c.index-position.ensures in
    vain_news s u c.args.self.now c.args.leaf c.requires.can c.requires.leaf c.look-version.result (rw number at c.look-version.ensures.sight) (rw number at c.look-version.ensures.state) t
    (rw position at c.if-version-position.false) (rw (number, c.in-Err-NoMemory.field-0-is) at c.in-Err-NoMemory.ensures.err)
