-- The facts of the small world.
--     sample      the settings of a job
--     toy settings      the facts of the world under these settings
use Rattle.std.specs.Prelude.{ℕ, true, not, List, [], ◌∷◌, Some, None, codes, bytes_eq, if◌then◌else◌}
use Rattle.std.specs.List.{starts_with}
use Rattle.crawl_kinds.specs.declared.settings.Settings.{Settings}
use Rattle.crawl_kinds.specs.declared.event.Event.{Event}
use Rattle.crawl_kinds.specs.declared.event.Event.TheVariants.{Session}
use Rattle.crawl_kinds.specs.declared.item.Item.{Item}
use Rattle.crawl_history.specs.Facts.{Facts}
use Rattle.crawl_history.specs.Adds.{item_of}
use Rattle.history_rows.specs.Names.{same, class, key, robots_file}
use Rattle.history_rows.specs.Pages.{forbids, links, spot, place_behind}

-- a moment in 2023
abbrev pub moment : ℕ
moment = 1700000000000

-- the settings: no limit, two tries, three seconds between two fetches of a host
abbrev pub sample : Settings
sample =
    record {
      name = codes "sample";
      agent = codes "sampler";
      contact = codes "http://example.org/bot";
      proxy = None;
      workers = 25;
      delay_factor = 5;
      min_delay_ms = 3000;
      max_delay_ms = 30000;
      max_crawl_delay_s = 300;
      max_tries = 2;
      retry_delay_s = 900;
      timeout_ms = 20000;
      host_budget = 0;
      max_pages = 0;
      max_bytes = 0;
      max_seconds = 0;
      max_keys = 2000000;
      max_response_bytes = 8388608;
      warc_max_bytes = 1000000000;
      checkpoint_finishes = 10000;
    }

-- the facts under these settings
abbrev pub toy : Settings → Facts
toy settings =
    record {
      settings = settings;
      key_of = key;
      class_of = class;
      robots_uri = robots_file;
      is_secure = λ uri. starts_with same uri (codes "https");
      accepts = λ number uri path. true;
      allows = λ text uri. not (bytes_eq text (forbids ∷ []));
      delay = λ text. if bytes_eq text (forbids ∷ []) then Some 7 else None;
      is_valid = λ e. true;
      payload = λ block. block;
      links = links;
      fits = λ uri block end. true;
      next_spot = λ edge c block. spot (place_behind edge);
    }

-- the first session
abbrev pub opened : Event
opened = Session moment (codes "sample") 1

-- the item of a seed
abbrev pub seed : List ℕ → Item
seed uri = item_of (toy sample) uri [] None
