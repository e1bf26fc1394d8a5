-- Worked examples of the definitions.
use Rattle.std.specs.Prelude.{◌≡◌, List, ℕ, codes, None}
use Rattle.url.specs.Parser.{parse_url}
use Rattle.uri_spec.specs.Surt.{surt_text, class_text, of_parsed}
use Rattle.uri_spec.specs.Key.{key_text}
use Rattle.uri_spec.specs.Prefix.{prefix_of, names_a_path, seed_text}

-- the prefix that a seed makes
abbrev prefix : List ℕ → List ℕ
prefix text = of_parsed (prefix_of (names_a_path text)) (parse_url None (seed_text text))

pub record AreWorked : Type 0 where
  pub name : surt_text (codes "http://www.archive.org/a") ≡ codes "http://(org,archive,www,)/a"
  pub port : surt_text (codes "http://example.com:8080/") ≡ codes "http://(com,example,:8080)/"
  pub address : surt_text (codes "http://127.0.0.1/x?y") ≡ codes "http://(127.0.0.1)/x?y"
  pub secure : surt_text (codes "https://example.com/") ≡ codes "http://(com,example,)/"
  pub secure_class : class_text (codes "https://example.com/") ≡ codes "com,example,#https"
  pub bracketed : surt_text (codes "http://[::1]:81/") ≡ codes "http://([::1]:81)/"
  pub user_class : class_text (codes "HTTP://user@WWW2.Example.com:80/a;jsessionid=0123456789abcdef0123456789abcdef?") ≡ codes "com,example,www2,"
  pub user_key : key_text (codes "HTTP://user@WWW2.Example.com:80/a;jsessionid=0123456789abcdef0123456789abcdef?") ≡ codes "http://example.com/a"
  pub robots : key_text (codes "https://a.test/robots.txt") ≡ codes "robots0:test,a,#https"
  pub members : key_text (codes "http://a.test/?sid=0123456789abcdef0123456789ABCDEF&b&&aspsessionidabcdefgh=abcdefghijklmnopqrstuvwx&&") ≡ codes "http://a.test/?b"
  pub two_labels : key_text (codes "http://www.com/") ≡ codes "http://www.com/"
  pub long_id : key_text (codes "http://a.test/?sid=0123456789abcdef0123456789abcdef0") ≡ codes "http://a.test/?sid=0123456789abcdef0123456789abcdef0"
  pub domain : prefix (codes "http://archive.org") ≡ codes "http://(org,archive,"
  pub bare : prefix (codes "archive.org") ≡ codes "http://(org,archive,"
  pub folder : prefix (codes "http://archive.org/") ≡ codes "http://(org,archive,)/"
  pub page : prefix (codes "http://www.archive.org/about") ≡ codes "http://(org,archive,www,)/"
  pub with_port : prefix (codes "http://archive.org:81") ≡ codes "http://(org,archive,:81)"
  pub with_address : prefix (codes "http://127.0.0.1") ≡ codes "http://(127.0.0.1)"
