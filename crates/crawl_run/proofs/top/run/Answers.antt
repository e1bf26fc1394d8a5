use Rattle.std.proofs.Common.{◌≡◌, ◌∙◌, refl, sym, ap, subst, ◌-◌, length, take, drop, map, get_or, set}
use Rattle.std.specs.String.{string_bytes}
use Rattle.crawl_run.specs.Run.{Crawls, words_after}
use Rattle.crawl_run.proofs.Words.{words_behind}
use Rattle.crawl_run.proofs.top.run.Goals as goal

pub returns-then-is_crawl-clause-crawls : goal.returns-then-is_crawl-clause-crawls
returns-then-is_crawl-clause-crawls g c is first more links =
    let held : c.index_mut-link.result.now ≡ first = c.index_mut-link.ensures.value ∙ ap (λ l. get_or l 0 c.index_mut-link.result.now) links in
    let rest = take (length c.args.words.now - 1) (drop 1 c.args.words.now) in
    let behind : words_after (map string_bytes c.args.words.now) ≡ map string_bytes rest = words_behind string_bytes c.args.words.now c.in-len1-up.len_at_least in (
      c.crawl_command-status.new.link,
      ap (λ l. set l 0 c.crawl_command-status.new.link) links,
      refl,
      subst (λ words. Crawls g.V.Volume g.W.Sink g.L.Link (g.C.Clock.gives c.args.clock.now) words c.args.volume c.crawl_command-status.new.volume c.args.out c.crawl_command-status.new.out first c.crawl_command-status.new.link c.crawl_command-status.result) (sym behind)
          (subst (λ link. Crawls g.V.Volume g.W.Sink g.L.Link (g.C.Clock.gives c.args.clock.now) (map string_bytes rest) c.args.volume c.crawl_command-status.new.volume c.args.out c.crawl_command-status.new.out link c.crawl_command-status.new.link c.crawl_command-status.result) held
          c.crawl_command-status.ensures),
    )
