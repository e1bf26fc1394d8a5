-- What the core allows can be asked for.
use Rattle.std.proofs.Common.{◌≡◌, inl, inr, ℕ, Bool, true, false, ◌&&◌, ◌||◌, List, ◌++◌, drop, refl, sym, ◌∙◌, ap, Option, Some, None}
use Rattle.std.specs.Prelude.{bytes_eq, codes, if◌then◌else◌, is_none, is_some}
use Rattle.std.specs.List.{concat}
use Rattle.std.proofs.lemmas.Bool.{cases_Bool, or_left, or_right}
use Rattle.std.proofs.lemmas.Slice.Eq.{bytes_eq-Decides}
use Rattle.url.specs.Parts.{Parts, has_authority, pieces, serialize}
use Rattle.core_facts.specs.CoreFacts.{is_secure}
use Rattle.page_spec.specs.Request.{scheme_in}
use Rattle.uri_spec.specs.Surt.{of_parsed}
use Rattle.finish_laws.specs.Going.{AllowedIsSupported}

-- the mark behind a scheme begins with `:`, with an authority and without
begins_secure : (b : Bool) (rest : List ℕ) → is_secure (codes "https" ++ ((if b then codes "://" else codes ":") ++ rest)) ≡ true
begins_secure true rest = refl
begins_secure false rest = refl

-- the text of a URL of https is an address of https
secure_text : (url : Parts) → url.scheme ≡ codes "https" → is_secure (serialize url) ≡ true
secure_text url https = rw https (begins_secure (has_authority url) (concat (drop 2 (pieces url))))

second : (b c : Bool) → (b || c) ≡ true → b ≡ false → c ≡ true
second true c e none = cc
second false c e none = e

-- where an address of https can be asked for, there is a proxy
proxied : {X : Type 0} (b : Bool) (proxy : Option X) → (b && is_none proxy) ≡ false → b ≡ true → is_some proxy ≡ true
proxied b (Some p) allowed secure = refl
proxied true None allowed secure = cc
proxied false None allowed secure = cc

pub supported : AllowedIsSupported
supported settings uri address allowed =
    let url : Parts = address.url in
    let scheme : scheme_in uri ≡ url.scheme = ap (of_parsed (λ (u : Parts). u.scheme)) address.reads.parsed in
    elim (cases_Bool (bytes_eq url.scheme (codes "http"))) [
      | inl plain ↦ or_right (is_some settings.proxy) (bytes_eq (scheme_in uri) (codes "http")) (ap (λ (s : List ℕ). bytes_eq s (codes "http")) scheme ∙ plain)
      | inr other ↦
          let https : url.scheme ≡ codes "https" =
          (bytes_eq-Decides url.scheme (codes "https")).0 (second (bytes_eq url.scheme (codes "http")) (bytes_eq url.scheme (codes "https")) address.reads.web other) in
          let secure : is_secure uri ≡ true = ap is_secure (sym address.reads.written) ∙ secure_text url https in
          or_left (is_some settings.proxy) (bytes_eq (scheme_in uri) (codes "http")) (proxied (is_secure uri) settings.proxy allowed secure)
    ]
