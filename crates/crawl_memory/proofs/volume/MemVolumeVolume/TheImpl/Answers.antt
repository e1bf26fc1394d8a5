use Rattle.std.proofs.Common.{rules}
use Rattle.crawl_memory.proofs.Recording.{recorded_time, recorded_write, recorded_torn, recorded_write_crash, recorded_cut, recorded_torn_cut, recorded_cut_crash, recorded_sync, recorded_sync_contents, recorded_sync_crash}
use Rattle.crawl_memory.proofs.volume.MemVolumeVolume.TheImpl.Goals as goal

pub write_at-tells : goal.write_at-tells
write_at-tells c = record {
  written = λ told. recorded_write c.args.file c.args.at c.args.from.now c.result c.args.self.now.calls.items c.new.self.now.calls.items c.ensures.ok;
  torn = λ told. recorded_torn c.args.file c.args.at c.args.from.now c.result c.args.self.now.calls.items c.new.self.now.calls.items c.ensures.ok c.ensures.err;
  in_range = search rules;
  tells = search rules;
  crash = recorded_write_crash c.args.file c.args.at c.args.from.now c.result c.args.self.now.calls.items c.new.self.now.calls.items c.ensures.ok c.ensures.err;
  time = recorded_time c.result c.args.self.now.calls.items c.new.self.now.calls.items _ c.ensures.ok c.ensures.err;
  read = search rules;
  cause = search rules;
}

pub cut-tells : goal.cut-tells
cut-tells c = record {
  cut = λ told. recorded_cut c.args.file c.args.to c.result c.args.self.now.calls.items c.new.self.now.calls.items c.ensures.ok;
  torn = λ told. recorded_torn_cut c.args.file c.args.to c.result c.args.self.now.calls.items c.new.self.now.calls.items c.ensures.ok c.ensures.err;
  tells = search rules;
  crash = recorded_cut_crash c.args.file c.args.to c.result c.args.self.now.calls.items c.new.self.now.calls.items c.ensures.ok c.ensures.err;
  time = recorded_time c.result c.args.self.now.calls.items c.new.self.now.calls.items _ c.ensures.ok c.ensures.err;
  read = search rules;
  cause = search rules;
}

pub sync-tells : goal.sync-tells
sync-tells c = record {
  durable = λ told. recorded_sync c.args.file c.result c.args.self.now.calls.items c.new.self.now.calls.items c.ensures.ok;
  contents = recorded_sync_contents c.args.file c.result c.args.self.now.calls.items c.new.self.now.calls.items c.ensures.ok c.ensures.err;
  tells = search rules;
  crash = recorded_sync_crash c.args.file c.result c.args.self.now.calls.items c.new.self.now.calls.items c.ensures.ok c.ensures.err;
  time = recorded_time c.result c.args.self.now.calls.items c.new.self.now.calls.items _ c.ensures.ok c.ensures.err;
  read = search rules;
  cause = search rules;
}
