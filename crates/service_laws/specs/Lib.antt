pub mod CrashRun
