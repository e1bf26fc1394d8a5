use Rattle.std.proofs.Common.{◌≡◌, ◌<◌, ◌∙◌, ℕ, Some, List, ap, sym, subst, length, get_or}
use Rattle.crawl_traits.specs.declared.link.LinkFault.{LinkFault}
use Rattle.crawl_traits.specs.declared.link.LinkFault.TheVariants.{Refused}
use Rattle.crawl_memory.proofs.Places.{found_entry}
use Rattle.crawl_memory.proofs.link_fails.LinkFails.fault_at.Goals as goal

pub returns-then-entry-number : goal.returns-then-entry-number
returns-then-entry-number c =
    let entries = c.args.self.now.listed.items in
    let same = c.deref-entry-items.ensures.value in
    let i = c.loop-entry.entry-index in
    let within : i < length entries = subst (λ (l : List (ℕ × LinkFault)). i < length l) same c.loop-entry-test.true in
    let is : (get_or entries i (0, Refused)).0 ≡ c.args.number = subst (λ (l : List (ℕ × LinkFault)). (get_or l i (0, Refused)).0 ≡ c.args.number) same c.if-entry-number.true in
    ap (λ (l : List (ℕ × LinkFault)). Some (get_or l i (0, Refused)).1) same
    ∙ found_entry entries i c.args.number (0, Refused) within is
    ∙ sym c.loop-entry.invariant
