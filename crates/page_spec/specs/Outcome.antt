-- How an exchange for an address ended, by the bytes that went over its connection.
--     IsSent uri settings e      it went to the address's host and port, or to the proxy's, and took the whole request
--     Answered uri settings e block      and the bytes given begin with this whole response
--     Unanswered uri settings e      and they begin with none, nor ever will
use Rattle.std.specs.Prelude.{◌≡◌, ◌⊎◌, ℕ, true, List}
use Rattle.crawl_kinds.specs.declared.settings.Settings.{Settings}
use Rattle.crawl_traits.specs.declared.link.Exchange.{Exchange}
use Rattle.page_spec.specs.Peer.{peer_host, peer_port}
use Rattle.page_spec.specs.Request.{request_text}
use Rattle.page_spec.specs.Response.{BeginsWith, BeginsWhole, NeverWhole}

-- the connection was to the host and port of the proxy where there is one, else to those of the address
pub record IsTo (uri : List ℕ) (settings : Settings) (e : Exchange) : Type 0 where
  pub host : e.host ≡ peer_host settings.proxy uri
  pub port : e.port ≡ peer_port settings.proxy uri

-- and the request was taken whole
pub record IsSent (uri : List ℕ) (settings : Settings) (e : Exchange) : Type 0 where
  pub to : IsTo uri settings e
  pub taken : e.taken ≡ request_text uri settings

-- the bytes given begin with this whole response
pub record Answered (uri : List ℕ) (settings : Settings) (e : Exchange) (block : List ℕ) : Type 0 where
  pub sent : IsSent uri settings e
  pub begins : BeginsWith settings.max_response_bytes e.given block

-- no bytes can follow that make it a whole response, or the peer's end came before one
pub record Unanswered (uri : List ℕ) (settings : Settings) (e : Exchange) : Type 0 where
  pub sent : IsSent uri settings e
  pub none : NeverWhole settings.max_response_bytes e.given
      ⊎ ((e.ended ≡ true) × ¬ (BeginsWhole settings.max_response_bytes e.given))
